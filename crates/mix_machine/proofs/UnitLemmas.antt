-- What the fields of a unit say of the unit.
use Rattle.std.proofs.Common.{ℕ, ◌+◌, ◌*◌, ◌≡◌, ◌<◌, ◌≤◌, ◌∙◌, ◌++◌, ◌&&◌, nat_le, Bool, true, false, cond, IsTrue, List, length, get_or, take, replicate, refl, ap, sym, subst, arith, length-set, length-append}
use Rattle.std.proofs.Math.Nat.{mul-le-mul_right}
use Rattle.std.proofs.lemmas.Bool.Decides.{nat_tests}
use Rattle.std.specs.Vec.{with_item}
use Rattle.std.proofs.lemmas.List.{get_or_read, length-take-le, length-replicate}
use Rattle.mix_word.specs.Word.{WordValue, zero_word}
use Rattle.mix_machine.specs.Prelude.{block_length, has_medium, has_output, blocks_in, UnitState, IsUnit, word_of, with_word, with_blocks, cut_to, can_cut, length_of}
use Rattle.mix_machine.specs.units.View.{unit_of_fields, AreFields}
use Rattle.mix_machine.specs.units.Keep.{is-with_word}
use Rattle.mix_machine.proofs.BlockLemmas.{length-blocks_in, word-in, blocks-set, blocks-take, blocks-more}
use Rattle.mix_machine.specs.declared.units.unit.Unit.TheInside.{Inside}

pub counted : (u : Inside) (s : UnitState) → unit_of_fields u ≡ s → u.count ≡ length s.blocks
counted u s e =
    sym (length-blocks_in u.count (block_length u.kind) u.words.items) ∙ ap (λ (t : UnitState). length t.blocks) e

-- the word that stands at the offset of a block's
pub word-read : (u : Inside) (s : UnitState) (i j at : ℕ) (w : WordValue) → unit_of_fields u ≡ s → i < u.count → j < block_length u.kind →
    at ≡ i * block_length u.kind + j → at < length u.words.items → w ≡ get_or u.words.items at w → w ≡ word_of s i j
word-read u s i j at w e h k a l r =
    get_or_read u.words.items at w l r zero_word
    ∙ ap (λ n. get_or u.words.items n zero_word) a
    ∙ sym (word-in u.count (block_length u.kind) i j u.words.items h k)
    ∙ ap (λ (t : UnitState). word_of t i j) e

-- and what setting it does
pub word-set : (u : Inside) (s : UnitState) (i j at : ℕ) (w : WordValue) → unit_of_fields u ≡ s → i < u.count → j < block_length u.kind →
    at ≡ i * block_length u.kind + j → unit_of_fields (record u { words = with_item u.words at w }) ≡ with_word s i j w
word-set u s i j at w e h k a =
    rw a (ap (λ bs. record (unit_of_fields u) { blocks = bs }) (blocks-set u.count (block_length u.kind) i j u.words.items w h k))
    ∙ ap (λ (t : UnitState). with_word t i j w) e

pub fields-set : (u : Inside) (i j at : ℕ) (w : WordValue) → AreFields u → i < u.count → j < block_length u.kind →
    at ≡ i * block_length u.kind + j → AreFields (record u { words = with_item u.words at w })
fields-set u i j at w f h k a =
    record {
      is_unit = subst IsUnit (sym (word-set u (unit_of_fields u) i j at w refl h k a)) (is-with_word (unit_of_fields u) i j w f.is_unit);
      words = length-set u.words.items at w ∙ f.words;
    }

cond-true : {X : Type 0} (b : Bool) (x y : X) → b ≡ true → cond b x y ≡ x
cond-true true x y e = refl
cond-true false x y e = absurd (cc)

pub length-medium : (u : Inside) (s : UnitState) → unit_of_fields u ≡ s → has_medium u.kind ≡ true → u.count ≡ length_of s
length-medium u s e m =
    counted u s e ∙ sym (cond-true (has_medium s.kind) _ (length s.rows) (ap (λ (t : UnitState). has_medium t.kind) (sym e) ∙ m))

-- what a cut of a tape or a disk is allowed by
pub medium-cut : (s : UnitState) (k : ℕ) → has_medium s.kind ≡ true → IsTrue (can_cut k s) → (k ≤ length s.blocks) × (s.place ≤ k)
medium-cut s k m h =
    let both : IsTrue (nat_le k (length s.blocks) && nat_le s.place k) =
    subst IsTrue (cond-true (has_medium s.kind) _ (has_output s.kind && nat_le k (length s.rows)) m) h in
    (grind (arith, nat_tests), grind (arith, nat_tests))

pub cut-view : (u : Inside) (s : UnitState) (k : ℕ) (items : List WordValue) → unit_of_fields u ≡ s → has_medium u.kind ≡ true → k ≤ u.count →
    items ≡ take (k * block_length u.kind) u.words.items →
    record (unit_of_fields u) { blocks = blocks_in k (block_length u.kind) items } ≡ cut_to k s
cut-view u s k items e m h i =
    rw i (ap (λ bs. record (unit_of_fields u) { blocks = bs }) (blocks-take u.count (block_length u.kind) k u.words.items h))
    ∙ sym (cond-true (has_medium u.kind) (record (unit_of_fields u) { blocks = take k (unit_of_fields u).blocks }) _ m)
    ∙ ap (cut_to k) e

pub cut-length : (u : Inside) (k : ℕ) (items : List WordValue) → AreFields u → k ≤ u.count → items ≡ take (k * block_length u.kind) u.words.items →
    length items ≡ k * block_length u.kind
cut-length u k items f h i =
    let most = mul-le-mul_right (block_length u.kind) h in
    rw i (length-take-le (k * block_length u.kind) u.words.items (rw f.words most))

-- blocks of +0 and one block more
pub more-view : (u : Inside) (s : UnitState) (gap : ℕ) (block items : List WordValue) → unit_of_fields u ≡ s → AreFields u →
    length block ≡ block_length u.kind → items ≡ u.words.items ++ replicate (gap * block_length u.kind) zero_word ++ block →
    record (unit_of_fields u) { blocks = blocks_in (u.count + (gap + 1)) (block_length u.kind) items } ≡ with_blocks s gap block
more-view u s gap block items e f h i =
    rw i (ap (λ bs. record (unit_of_fields u) { blocks = bs }) (blocks-more u.count gap (block_length u.kind) u.words.items block f.words h))
    ∙ ap (λ (t : UnitState). with_blocks t gap block) e

pub more-length : (u : Inside) (gap : ℕ) (block items : List WordValue) → AreFields u → length block ≡ block_length u.kind →
    items ≡ u.words.items ++ replicate (gap * block_length u.kind) zero_word ++ block →
    length items ≡ (u.count + (gap + 1)) * block_length u.kind
more-length u gap block items f h i =
    let words = f.words in
    rw i (simp (length-append, length-replicate) (grind arith))
