-- Where a search finds a byte, and where it finds none.
use Rattle.std.proofs.Common.{◌≡◌, ℕ, ◌≤◌, Bool, not, Some, None, List, length, sym, arith}
use Rattle.std.specs.Prelude.{position}
use Rattle.std.specs.List.{position_or_len}
use Rattle.std.proofs.lemmas.Grind.{common_steps}
use Rattle.std.proofs.lemmas.List.Quantifiers.{position-Some}
use Rattle.std.proofs.lemmas.List.Sums.{position_or_len_is, prefix_len-le-length}

pub found : (p : ℕ → Bool) (xs : List ℕ) (i : ℕ) → Some i ≡ position p xs → (i ≡ position_or_len p xs) × (i ≤ length xs)
found p xs i at = let w = position-Some p xs i 0 (sym at) in
    (sym (position_or_len_is p xs i 0 (omega arith) w.2 (λ _. w.1)), omega arith)

pub missed : (p : ℕ → Bool) (xs : List ℕ) → None ≡ position p xs → length xs ≡ position_or_len p xs
missed p xs none = let most = prefix_len-le-length (λ x. not (p x)) xs in grind (arith, common_steps)

pub ruleset first_place = (found, missed)
