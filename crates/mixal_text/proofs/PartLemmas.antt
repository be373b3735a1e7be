-- What a search makes of a cut text.
use Rattle.std.proofs.Common.{◌≡◌, ℕ, ◌+◌, ◌-◌, Bool, true, false, Some, None, List, [], ◌∷◌, length, take, drop, sym, ap, ◌∙◌, arith}
use Rattle.std.specs.Prelude.{position}
use Rattle.std.specs.List.{before_first, after_first, list_any, slice_split}
use Rattle.std.proofs.lemmas.List.{take_rest, take_all, drop_all}
use Rattle.std.proofs.lemmas.List.Quantifiers.{position-Some}
use Rattle.std.proofs.lemmas.List.Folds.{list_any_at, list_any_none}
use Rattle.std.proofs.lemmas.List.Sums.{fails_before_first}
use Rattle.std.proofs.lemmas.List.Splits.{slice_split_first, slice_split_none}
use Rattle.mixal_text.specs.Part.{from_first}
use Rattle.mixal_text.proofs.Positions.{found, missed}

pub before-found : (p : ℕ → Bool) (xs : List ℕ) (i : ℕ) → Some i ≡ position p xs → take i xs ≡ before_first p xs
before-found p xs i at = ap (λ n. take n xs) (found p xs i at).0

pub before-missed : (p : ℕ → Bool) (xs : List ℕ) → None ≡ position p xs → xs ≡ before_first p xs
before-missed p xs none = sym (ap (λ n. take n xs) (sym (missed p xs none)) ∙ take_all (length xs) xs (omega arith))

pub after-found : (p : ℕ → Bool) (xs : List ℕ) (i : ℕ) → Some i ≡ position p xs
    → take (length xs - (i + 1)) (drop (i + 1) xs) ≡ after_first p xs
after-found p xs i at = take_rest xs (i + 1) ∙ ap (λ n. drop (n + 1) xs) (found p xs i at).0

pub after-missed : (p : ℕ → Bool) (xs : List ℕ) → None ≡ position p xs → [] ≡ after_first p xs
after-missed p xs none =
    sym (ap (λ n. drop (n + 1) xs) (sym (missed p xs none)) ∙ drop_all (length xs + 1) xs (omega arith))

pub from-found : (p : ℕ → Bool) (xs : List ℕ) (i : ℕ) → Some i ≡ position p xs → drop i xs ≡ from_first p xs
from-found p xs i at = ap (λ n. drop n xs) (found p xs i at).0

pub from-missed : (p : ℕ → Bool) (xs : List ℕ) → None ≡ position p xs → [] ≡ from_first p xs
from-missed p xs none = sym (ap (λ n. drop n xs) (sym (missed p xs none)) ∙ drop_all (length xs) xs (omega arith))

-- whether there is such a byte at all
pub any-found : (p : ℕ → Bool) (xs : List ℕ) (i : ℕ) → Some i ≡ position p xs → list_any p xs ≡ true
any-found p xs i at = let w = position-Some p xs i 0 (sym at) in list_any_at p xs i 0 w.0 w.1

pub any-missed : (p : ℕ → Bool) (xs : List ℕ) → None ≡ position p xs → list_any p xs ≡ false
any-missed p xs none =
    let whole = missed p xs none in
    list_any_none p xs (λ k d l. fails_before_first p xs k d (omega arith))

pub ruleset cuts = (before-found, before-missed, after-found, after-missed, from-found, from-missed, any-found, any-missed, take_rest)

-- the pieces of a text at its first comma
pub pieces-found : (p : ℕ → Bool) (xs : List ℕ) (i : ℕ) → Some i ≡ position p xs
    → slice_split p xs ≡ take i xs ∷ slice_split p (take (length xs - (i + 1)) (drop (i + 1) xs))
pieces-found p xs i at =
    let w = found p xs i at in
    let inside = position-Some p xs i 0 (sym at) in
    let e = slice_split_first p xs 0 (omega arith) in
    rw (take_rest xs (i + 1), w.0) e

pub pieces-missed : (p : ℕ → Bool) (xs : List ℕ) → None ≡ position p xs → slice_split p xs ≡ xs ∷ []
pieces-missed p xs none =
    let whole = missed p xs none in
    slice_split_none p xs (λ k d l. fails_before_first p xs k d (omega arith))

pub ruleset pieces = (pieces-found, pieces-missed)
