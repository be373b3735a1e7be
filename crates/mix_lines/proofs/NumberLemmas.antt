-- What one more digit makes of a number.
use Rattle.std.proofs.Common.{◌≡◌, ℕ, ◌+◌, ◌-◌, ◌*◌, ◌^◌, ◌<◌, ◌≤◌, true, List, [], ◌∷◌, ◌++◌, length, take, get_or, zero, suc, add-one, arith}
use Rattle.std.proofs.Math.Nat.{pow-suc, pow-le-pow_right}
use Rattle.std.proofs.lemmas.List.{length_push, take_more}
use Rattle.std.proofs.lemmas.Bool.{and_parts, leb-true}
use Rattle.std.specs.List.{list_all}
use Rattle.mix_lines.specs.Number.{is_digit, is_digits, value_of}

step : (digit value next d power : ℕ) → next ≡ value * 10 + d
    → digit * (power * 10) + next ≡ (digit * power + value) * 10 + d
step digit value next d power e = grind arith

pub value_of-push : (text : List ℕ) (digit : ℕ) → value_of (text ++ digit ∷ []) ≡ value_of text * 10 + (digit - 48)
value_of-push [] digit = grind arith
value_of-push (first ∷ rest) digit =
    let shorter = value_of-push rest digit in
    let longer : length (rest ++ digit ∷ []) ≡ suc (length rest) = omega (arith, length_push rest digit) in
    rw longer (rw pow-suc (step (first - 48) (value_of rest) _ (digit - 48) (10 ^ length rest) shorter))

digits-at : (text : List ℕ) (i : ℕ) → list_all is_digit text ≡ true → i < length text
    → is_digit (get_or text i 0) ≡ true
digits-at [] i h l = absurd (omega arith)
digits-at (first ∷ rest) zero h l = (and_parts _ _ h).0
digits-at (first ∷ rest) (suc i) h l = digits-at rest i (and_parts _ _ h).1 (omega arith)

-- each byte of digits is one
pub digit-at : (text : List ℕ) (i : ℕ) → is_digits text ≡ true → i < length text
    → (48 ≤ get_or text i 0) × (get_or text i 0 ≤ 57)
unfolding is_digits
digit-at text i h l =
    let range = and_parts _ _ (digits-at text i (and_parts _ _ h).1 l) in
    (leb-true _ _ range.0, leb-true _ _ range.1)

-- one digit more makes the bound ten times as much
pub power-more : (i : ℕ) → 10 ^ (i + 1) ≡ 10 ^ i * 10
power-more i = rw add-one (pow-suc 10 i)

pub power-bound : (i k n : ℕ) → i ≤ k → n < 10 ^ i → n < 10 ^ k
power-bound i k n le lt =
    let most : 10 ^ i ≤ 10 ^ k = pow-le-pow_right (omega arith) le in
    omega arith

pub value-more : (text : List ℕ) (i value digit : ℕ) → is_digits text ≡ true → i < length text
    → value ≡ value_of (take i text) → value < 10 ^ i → digit ≡ get_or text i 0 - 48
    → (value * 10 + digit ≡ value_of (take (i + 1) text)) × (value * 10 + digit < 10 ^ (i + 1))
value-more text i value digit h l e lt d =
    let range = digit-at text i h l in
    (rw (take_more text i 0 l, value_of-push) (grind arith), rw power-more (omega arith))

pub ruleset digits = (value_of-push, digit-at, power-more, power-bound, take_more)
