-- How a blank cuts a line.
use Rattle.std.proofs.Common.{◌≡◌, ℕ, zero, suc, ◌+◌, ◌-◌, ◌<◌, Bool, true, not, None, Some, List, [], ◌∷◌, length, take, drop, get_or, refl, sym, arith}
use Rattle.std.specs.Prelude.{position}
use Rattle.std.specs.List.{position_or_len}
use Rattle.std.proofs.lemmas.Grind.{common_steps}
use Rattle.std.proofs.lemmas.List.{take_rest}
use Rattle.std.proofs.lemmas.List.Folds.{list_any_at, list_any_none}
use Rattle.std.proofs.lemmas.List.Quantifiers.{position-Some}
use Rattle.std.proofs.lemmas.List.Sums.{fails_before_first, prefix_len-le-length}
use Rattle.mix_lines.specs.Lines.{is_blank}
use Rattle.mix_session.specs.Completion.{unfinished}

-- a blank, and what comes before it, is not in the last word
skipped : (line : List ℕ) (n : ℕ) → n < length line → is_blank (get_or line n 0) ≡ true → unfinished line ≡ unfinished (drop (n + 1) line)
skipped [] n below blank = absurd (omega arith)
skipped (byte ∷ more) zero below blank = rw (list_any_at is_blank (byte ∷ more) 0 0 below blank) refl
skipped (byte ∷ more) (suc n) below blank =
    let next : suc n + 1 ≡ suc (n + 1) = omega arith in
    rw (list_any_at is_blank (byte ∷ more) (suc n) 0 below blank, next) (skipped more n (omega arith) blank)

pub after_blank : (line : List ℕ) (at : ℕ) → Some at ≡ position is_blank line → unfinished line ≡ unfinished (take (length line - (at + 1)) (drop (at + 1) line))
after_blank line at found =
    let w = position-Some is_blank line at 0 (sym found) in
    rw (take_rest line (at + 1)) (skipped line at w.0 w.1)

missed : (p : ℕ → Bool) (xs : List ℕ) → None ≡ position p xs → position_or_len p xs ≡ length xs
missed p xs none = let most = prefix_len-le-length (λ x. not (p x)) xs in grind (arith, common_steps)

pub without_blank : (line : List ℕ) → None ≡ position is_blank line → unfinished line ≡ line
without_blank [] none = refl
without_blank (byte ∷ more) none =
    let whole = missed is_blank (byte ∷ more) none in
    rw (list_any_none is_blank (byte ∷ more) (λ k d l. fails_before_first is_blank (byte ∷ more) k d (omega arith))) refl
