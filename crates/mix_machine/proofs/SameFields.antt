-- Two units are the same where their fields are.
use Rattle.std.proofs.Common.{ℕ, zero, suc, Bool, true, ◌&&◌, ◌*◌, ◌≡◌, ◌∙◌, List, [], ◌∷◌, length, take, drop, refl, ap, sym, arith}
use Rattle.std.proofs.Math.Bool.{and_assoc}
use Rattle.std.proofs.lemmas.Bool.Decides.{nat_tests}
use Rattle.std.proofs.lemmas.List.{nil_from_length, length-drop}
use Rattle.std.specs.Cmp.Lexicographic.{pointwise}
use Rattle.mix_word.specs.Word.{WordValue, is_same_word}
use Rattle.mix_machine.specs.Prelude.{is_same_kind, is_same_row, is_same_unit, block_length, UnitState, blocks_in}
use Rattle.mix_machine.proofs.BlockLemmas.{length-blocks_in}
use Rattle.mix_machine.proofs.SameUnit.{same-kind}
use Rattle.mix_machine.specs.units.Alike.{is_alike}
use Rattle.mix_machine.specs.units.View.{unit_of_fields, AreFields}
use Rattle.mix_machine.specs.declared.units.unit.Unit.TheInside.{Inside}

-- two lists are the same where their beginnings and their rests are
pointwise-cut : {X : Type 0} (E : X → X → Bool) (k : ℕ) (xs ys : List X) →
    pointwise E xs ys ≡ (pointwise E (take k xs) (take k ys) && pointwise E (drop k xs) (drop k ys))
pointwise-cut E zero xs ys = refl
pointwise-cut E (suc k) [] [] = refl
pointwise-cut E (suc k) [] (y ∷ ys) = refl
pointwise-cut E (suc k) (x ∷ xs) [] = refl
pointwise-cut E (suc k) (x ∷ xs) (y ∷ ys) = ap (λ b. E x y && b) (pointwise-cut E k xs ys) ∙ sym (and_assoc (E x y) _ _)

-- blocks are the same where the words are of which they are made
blocks-same : (n size : ℕ) (ws vs : List WordValue) → length ws ≡ n * size → length vs ≡ n * size →
    pointwise is_same_word ws vs ≡ pointwise (pointwise is_same_word) (blocks_in n size ws) (blocks_in n size vs)
blocks-same zero size ws vs h k =
    let none : length ws ≡ 0 = grind arith in
    let none-2 : length vs ≡ 0 = grind arith in
    rw (nil_from_length ws none, nil_from_length vs none-2) refl
blocks-same (suc n) size ws vs h k =
    let rest : length (drop size ws) ≡ n * size = simp length-drop (grind arith) in
    let rest-2 : length (drop size vs) ≡ n * size = simp length-drop (grind arith) in
    pointwise-cut is_same_word size ws vs
    ∙ ap (λ b. pointwise is_same_word (take size ws) (take size vs) && b) (blocks-same n size (drop size ws) (drop size vs) rest rest-2)

all-true : (s t : UnitState) → is_alike s t ≡ true →
    is_same_unit s t ≡ (pointwise (pointwise is_same_word) s.blocks t.blocks && pointwise is_same_row s.rows t.rows)
all-true s t h = grind (arith, nat_tests)

alike-kind : (s t : UnitState) → is_alike s t ≡ true → is_same_kind s.kind t.kind ≡ true
alike-kind s t h = grind (arith, nat_tests)

alike-count : (s t : UnitState) → is_alike s t ≡ true → length s.blocks ≡ length t.blocks
alike-count s t h = grind (arith, nat_tests)

-- of units that are alike, what stands in the fields decides
same-fields : (u v : Inside) → AreFields u → AreFields v → is_alike (unit_of_fields u) (unit_of_fields v) ≡ true →
    (pointwise is_same_word u.words.items v.words.items && pointwise is_same_row u.rows.items v.rows.items)
    ≡ is_same_unit (unit_of_fields u) (unit_of_fields v)
same-fields u v f g h =
    let kind : v.kind ≡ u.kind = sym ((same-kind u.kind v.kind).0 (alike-kind (unit_of_fields u) (unit_of_fields v) h)) in
    let len = alike-count (unit_of_fields u) (unit_of_fields v) h in
    let own = length-blocks_in u.count (block_length u.kind) u.words.items in
    let other = length-blocks_in v.count (block_length v.kind) v.words.items in
    let count : v.count ≡ u.count = sym other ∙ sym len ∙ own in
    let words : length v.words.items ≡ u.count * block_length u.kind = rw (← kind, ← count) g.words in
    let blocks : pointwise is_same_word u.words.items v.words.items ≡ pointwise (pointwise is_same_word) (unit_of_fields u).blocks (unit_of_fields v).blocks =
    rw (kind, count) (blocks-same u.count (block_length u.kind) u.words.items v.words.items f.words words) in
    ap (λ b. b && pointwise is_same_row u.rows.items v.rows.items) blocks ∙ sym (all-true (unit_of_fields u) (unit_of_fields v) h)

pub same-units : (u v : Inside) (s t : UnitState) → unit_of_fields u ≡ s → unit_of_fields v ≡ t → AreFields u → AreFields v →
    is_alike s t ≡ true →
    (pointwise is_same_word u.words.items v.words.items && pointwise is_same_row u.rows.items v.rows.items) ≡ is_same_unit s t
same-units u v s t e k f g h =
    let alike = ap (λ (a : UnitState). is_alike a (unit_of_fields v)) e ∙ ap (is_alike s) k ∙ h in
    same-fields u v f g alike ∙ ap (λ (a : UnitState). is_same_unit a (unit_of_fields v)) e ∙ ap (is_same_unit s) k
