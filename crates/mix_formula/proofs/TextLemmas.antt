-- Where a search finds a byte, and what it makes of a cut text.
use Rattle.std.proofs.Common.{◌≡◌, ℕ, ◌+◌, ◌-◌, ◌≤◌, Bool, true, false, not, Some, None, List, [], length, take, drop, sym, ap, ◌∙◌, arith}
use Rattle.std.specs.Prelude.{position}
use Rattle.std.specs.List.{after_first, before_first, list_any, position_or_len}
use Rattle.std.proofs.lemmas.Grind.{common_steps}
use Rattle.std.proofs.lemmas.List.{take_rest, drop_all}
use Rattle.std.proofs.lemmas.List.Folds.{list_any_at, list_any_none}
use Rattle.std.proofs.lemmas.List.Quantifiers.{position-Some}
use Rattle.std.proofs.lemmas.List.Sums.{fails_before_first, position_or_len_is, prefix_len-le-length}

pub found : (p : ℕ → Bool) (xs : List ℕ) (i : ℕ) → Some i ≡ position p xs → (i ≡ position_or_len p xs) × (i ≤ length xs)
found p xs i at = let w = position-Some p xs i 0 (sym at) in
    (sym (position_or_len_is p xs i 0 (omega arith) w.2 (λ _. w.1)), omega arith)

pub missed : (p : ℕ → Bool) (xs : List ℕ) → None ≡ position p xs → length xs ≡ position_or_len p xs
missed p xs none = let most = prefix_len-le-length (λ x. not (p x)) xs in grind (arith, common_steps)

pub before-found : (p : ℕ → Bool) (xs : List ℕ) (i : ℕ) → Some i ≡ position p xs → take i xs ≡ before_first p xs
before-found p xs i at = ap (λ n. take n xs) (found p xs i at).0

pub after-found : (p : ℕ → Bool) (xs : List ℕ) (i : ℕ) → Some i ≡ position p xs
    → take (length xs - (i + 1)) (drop (i + 1) xs) ≡ after_first p xs
after-found p xs i at = take_rest xs (i + 1) ∙ ap (λ n. drop (n + 1) xs) (found p xs i at).0

pub after-missed : (p : ℕ → Bool) (xs : List ℕ) → None ≡ position p xs → [] ≡ after_first p xs
after-missed p xs none =
    sym (ap (λ n. drop (n + 1) xs) (sym (missed p xs none)) ∙ drop_all (length xs + 1) xs (omega arith))

-- whether there is such a byte at all
pub any-found : (p : ℕ → Bool) (xs : List ℕ) (i : ℕ) → Some i ≡ position p xs → list_any p xs ≡ true
any-found p xs i at = let w = position-Some p xs i 0 (sym at) in list_any_at p xs i 0 w.0 w.1

pub any-missed : (p : ℕ → Bool) (xs : List ℕ) → None ≡ position p xs → list_any p xs ≡ false
any-missed p xs none =
    let whole = missed p xs none in
    list_any_none p xs (λ k d l. fails_before_first p xs k d (omega arith))

pub ruleset cuts = (found, missed, before-found, after-found, after-missed, any-found, any-missed, take_rest)
