-- The boxes of a row, one more each time: the columns before the last end are each in one.
use Rattle.std.proofs.Common.{◌≡◌, ℕ, ◌+◌, ◌<◌, ◌≤◌, ◌==◌, ◌&&◌, Bool, true, false, List, [], ◌∷◌, ◌++◌, refl, sym, ◌∙◌, arith, eq-eqb, if◌then◌else◌}
use Rattle.std.specs.Prelude.{nat_le, nat_lt}
use Rattle.std.proofs.lemmas.Bool.{le-leb, lt-leb, lt-ltb, ltb-false, ltb-true, ne_eqb}
use Rattle.mix_map.specs.Map.{boxes_at, held, holds, one_if}
use Rattle.mix_map.specs.declared.parts.MapBox.{MapBox}

by_test : {P : Type 0} (t : Bool) → (t ≡ true → P) → (t ≡ false → P) → P
by_test true at_true at_false = at_true refl
by_test false at_true at_false = at_false refl

-- one box more
boxes-more : (r c : ℕ) (box : MapBox) (boxes : List MapBox) → boxes_at r c (boxes ++ box ∷ []) ≡ boxes_at r c boxes + held (holds r c box)
boxes-more r c box [] = omega arith
boxes-more r c box (first ∷ boxes) = let more = boxes-more r c box boxes in omega (arith, more)

abbrev pub drawn : ℕ → ℕ → ℕ → ℕ → MapBox
drawn r from to dark = record { row = r; from = from; to = to; dark = dark }

held-is : (r from to dark c : ℕ) (a b : Bool) → nat_le from c ≡ a → nat_lt c to ≡ b → held (holds r c (drawn r from to dark)) ≡ held (a && b)
held-is r from to dark c a b first last = rw (eq-eqb r r refl, first, last) refl

-- a box of another row
pub boxes-other : (n r c from to dark : ℕ) (boxes : List MapBox) → (n == r) ≡ false → boxes_at r c (boxes ++ drawn n from to dark ∷ []) ≡ boxes_at r c boxes
boxes-other n r c from to dark boxes other =
    let none : held (holds r c (drawn n from to dark)) ≡ 0 = rw other refl in
    let more = boxes-more r c (drawn n from to dark) boxes in omega (arith, none, more)

-- the columns from the last end on are alike and dark, and the next one is not: a box ends
module _ (count : ℕ → ℕ) (k from dark : ℕ) (here : one_if dark ≡ one_if (count k)) (is_dark : 0 < dark) (within : from ≤ k)
    (alike : (c : ℕ) → from ≤ c → c ≤ k → one_if (count c) ≡ one_if (count k)) where
  pub own-drawn : (r c : ℕ) (boxes : List MapBox) → boxes_at r c boxes ≡ (if nat_lt c from then one_if (count c) else 0)
      → boxes_at r c (boxes ++ drawn r from (k + 1) dark ∷ []) ≡ (if nat_lt c (k + 1) then one_if (count c) else 0)
  own-drawn r c boxes own =
      let more = boxes-more r c (drawn r from (k + 1) dark) boxes in
      let one : one_if dark ≡ 1 = rw (ne_eqb dark 0 (λ e. omega (arith, e, is_dark))) refl in
      by_test (nat_lt c from)
      (λ t. let less = ltb-true c from t in
      let had : boxes_at r c boxes ≡ one_if (count c) = own ∙ rw t refl in
      let out : held (holds r c (drawn r from (k + 1) dark)) ≡ 0 = held-is r from (k + 1) dark c false true (lt-leb from c less) (lt-ltb c (k + 1) (omega (arith, less, within))) in
      more ∙ rw (had, out, lt-ltb c (k + 1) (omega (arith, less, within))) (omega arith))
      (λ t. let low = ltb-false c from t in
      let had : boxes_at r c boxes ≡ 0 = own ∙ rw t refl in
      by_test (nat_lt c (k + 1))
      (λ u. let less = ltb-true c (k + 1) u in
      let inside : held (holds r c (drawn r from (k + 1) dark)) ≡ 1 = held-is r from (k + 1) dark c true true (le-leb from c low) u in
      let each : one_if (count c) ≡ 1 = alike c low (omega (arith, less)) ∙ sym here ∙ one in
      more ∙ rw (had, inside, u) (sym each))
      (λ u. let out : held (holds r c (drawn r from (k + 1) dark)) ≡ 0 = held-is r from (k + 1) dark c true false (le-leb from c low) u in
      more ∙ rw (had, out, u) refl))
