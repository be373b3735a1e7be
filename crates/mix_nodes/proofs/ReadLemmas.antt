-- What a search makes of a cut text.
use Rattle.std.proofs.Common.{◌≡◌, ℕ, ◌≤◌, Bool, not, Some, None, List, [], length, take, drop, sym, ap, ◌∙◌, arith}
use Rattle.std.specs.Prelude.{position}
use Rattle.std.specs.List.{before_first, position_or_len}
use Rattle.std.proofs.lemmas.Grind.{common_steps}
use Rattle.std.proofs.lemmas.List.{take_all, drop_all}
use Rattle.std.proofs.lemmas.List.Quantifiers.{position-Some}
use Rattle.std.proofs.lemmas.List.Sums.{position_or_len_is, prefix_len-le-length}
use Rattle.mixal_text.specs.Part.{from_first}

found : (p : ℕ → Bool) (xs : List ℕ) (i : ℕ) → Some i ≡ position p xs → (i ≡ position_or_len p xs) × (i ≤ length xs)
found p xs i at = let w = position-Some p xs i 0 (sym at) in
    (sym (position_or_len_is p xs i 0 (omega arith) w.2 (λ _. w.1)), omega arith)

missed : (p : ℕ → Bool) (xs : List ℕ) → None ≡ position p xs → length xs ≡ position_or_len p xs
missed p xs none = let most = prefix_len-le-length (λ x. not (p x)) xs in grind (arith, common_steps)

pub within : (p : ℕ → Bool) (xs : List ℕ) (i : ℕ) → Some i ≡ position p xs → i ≤ length xs
within p xs i at = (found p xs i at).1

pub before-found : (p : ℕ → Bool) (xs : List ℕ) (i : ℕ) → Some i ≡ position p xs → take i xs ≡ before_first p xs
before-found p xs i at = ap (λ n. take n xs) (found p xs i at).0

pub before-missed : (p : ℕ → Bool) (xs : List ℕ) → None ≡ position p xs → xs ≡ before_first p xs
before-missed p xs none = sym (ap (λ n. take n xs) (sym (missed p xs none)) ∙ take_all (length xs) xs (omega arith))

pub from-found : (p : ℕ → Bool) (xs : List ℕ) (i : ℕ) → Some i ≡ position p xs → drop i xs ≡ from_first p xs
from-found p xs i at = ap (λ n. drop n xs) (found p xs i at).0

pub from-missed : (p : ℕ → Bool) (xs : List ℕ) → None ≡ position p xs → [] ≡ from_first p xs
from-missed p xs none = sym (ap (λ n. drop n xs) (sym (missed p xs none)) ∙ drop_all (length xs) xs (omega arith))

pub ruleset cuts = (within, before-found, before-missed, from-found, from-missed)
