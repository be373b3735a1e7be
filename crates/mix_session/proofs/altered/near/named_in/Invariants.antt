use Rattle.std.proofs.Common.{◌≡◌, ◌+◌, ◌≤◌, ℕ, length}
use Rattle.std.specs.List.{list_any}
use Rattle.mix_session.specs.Prelude.{count_of, is_of, IsOutside}
use Rattle.mix_session.proofs.altered.near.named_in.Given as goal

abbrev pub invariant-loop : goal.invariant-loop
invariant-loop l = record {
  many : length l.left + l.counter ≡ l.end;
  within : l.numbers.end ≤ count_of l.kind;
  others : (n : ℕ) → IsOutside l.numbers n → list_any (is_of l.kind n) l.kept ≡ list_any (is_of l.kind n) l.left;
}
