-- What marks say while a run goes on: as long as no condition is met, those before a change serve as well as those after it.
use Rattle.std.proofs.Common.{◌≡◌, ◌+◌, ◌∙◌, ℕ, zero, suc, Bool, true, false, not, List, [], ◌∷◌, length, Option, None, Some, Ok, refl, ap, sym, arith, if◌then◌else◌}
use Rattle.std.specs.Bool.{beq}
use Rattle.std.specs.Cmp.{unsigned_Decides}
use Rattle.std.proofs.lemmas.Bool.{and_parts}
use Rattle.mix_word.specs.declared.word.Sign.{Sign}
use Rattle.mix_word.specs.declared.word.Sign.TheVariants.{Plus, Minus}
use Rattle.mix_word.specs.declared.word.Cmp.{Cmp}
use Rattle.mix_word.specs.Word.{WordValue, word, is_same_sign, is_same_word}
use Rattle.mix_word.specs.declared.word.Cmp.TheVariants.{Less, Equal, Greater}
use Rattle.mix_machine.specs.Prelude.{WorldState, IsWorld, does, IsReal, is_same_indicator, is_same_mark, mark_of}
use Rattle.mix_machine.specs.declared.old.Change.{Change}
use Rattle.mix_machine.specs.declared.old.Change.TheVariants.{Step}
use Rattle.mix_machine.specs.declared.part.Mark.{Mark}
use Rattle.mix_machine.specs.declared.part.Mark.TheVariants as mark
use Rattle.mix_session.specs.Prelude.{watched, AreMarks, is_met_from, first_met, Condition, Alters, At, Conflicts}

same-sign : (s t : Sign) → is_same_sign s t ≡ true → s ≡ t
same-sign Plus Plus e = refl
same-sign Minus Minus e = refl
same-sign Plus Minus e = absurd (cc)
same-sign Minus Plus e = absurd (cc)

same-word : (v w : WordValue) → is_same_word v w ≡ true → v ≡ w
same-word v w e =
    let parts = and_parts (is_same_sign v.sign w.sign) _ e in
    ap (λ s. word s v.magnitude) (same-sign v.sign w.sign parts.0) ∙ ap (word w.sign) ((unsigned_Decides v.magnitude w.magnitude).0 parts.1)

same-toggle : (a b : Bool) → beq a b ≡ true → a ≡ b
same-toggle true true e = refl
same-toggle false false e = refl
same-toggle true false e = absurd (cc)
same-toggle false true e = absurd (cc)

same-indicator : (c d : Cmp) → is_same_indicator c d ≡ true → c ≡ d
same-indicator Less Less e = refl
same-indicator Equal Equal e = refl
same-indicator Greater Greater e = refl
same-indicator _ _ e = absurd (cc)

-- the same marks are equal
same-mark : (m n : Mark) → is_same_mark m n ≡ true → m ≡ n
same-mark (mark.Word v) (mark.Word w) e = ap mark.Word (same-word v w e)
same-mark (mark.Toggle a) (mark.Toggle b) e = ap mark.Toggle (same-toggle a b e)
same-mark (mark.Indicator c) (mark.Indicator d) e = ap mark.Indicator (same-indicator c d e)
same-mark (mark.Location m) (mark.Location n) e = ap mark.Location ((unsigned_Decides m n).0 e)
same-mark (mark.Time s) (mark.Time t) e = ap mark.Time ((unsigned_Decides s t).0 e)
same-mark _ _ e = absurd (cc)

not-false : (b : Bool) → not b ≡ false → b ≡ true
not-false true e = refl
not-false false e = absurd (cc)

-- a condition that is not met is met later from the mark after the change as from that before it
met-later : (told again : Bool) (m : Mark) (w x : WorldState) (c : Condition) → is_met_from told m w c ≡ false →
    is_met_from again (mark_of w (watched c)) x c ≡ is_met_from again m x c
met-later told again m w x (Alters part) none =
    ap (λ n. not (is_same_mark n (mark_of x part))) (sym (same-mark m (mark_of w part) (not-false (is_same_mark m (mark_of w part)) none)))
met-later told again m w x (At place) none = refl
met-later told again m w x Conflicts none = refl

none-first : (b : Bool) (i : ℕ) (found : Option ℕ) → (if b then Some i else found) ≡ None → (b ≡ false) × (found ≡ None)
none-first true i found none = absurd (cc)
none-first false i found none = (refl, none)

-- the marks of a state
abbrev pub marks_in : List Condition → WorldState → List Mark
marks_in [] w = []
marks_in (c ∷ cs) w = mark_of w (watched c) ∷ marks_in cs w

-- and so it is of all of them
pub first_met-later : (told again : Bool) (i j : ℕ) (conditions : List Condition) (before after : List Mark) (w x : WorldState) → AreMarks conditions after w →
    length conditions ≡ length before → first_met told i conditions before w ≡ None → first_met again j conditions after x ≡ first_met again j conditions before x
first_met-later told again i j [] before after w x are count none = refl
first_met-later told again i j (c ∷ cs) [] after w x are count none = absurd (omega (arith, count))
first_met-later told again i j (c ∷ cs) (m ∷ ms) [] w x are count none = absurd are
first_met-later told again i j (c ∷ cs) (m ∷ ms) (n ∷ ns) w x are count none =
    let parts = none-first (is_met_from told m w c) i (first_met told (i + 1) cs ms w) none in
    let first : is_met_from again n x c ≡ is_met_from again m x c = rw are.0 (met-later told again m w x c parts.0) in
    let rest = first_met-later told again (i + 1) (j + 1) cs ms ns w x are.3 (omega (arith, count)) parts.1 in
    rw (first, rest) refl

-- marks of a state and of the one after a step
abbrev pub WorldsLaw : Type 0
WorldsLaw = (v w : WorldState) (c : Change) → IsWorld v → IsReal c → does v c ≡ Ok w → IsWorld w

pub AreMarks-after : WorldsLaw → (conditions : List Condition) (marks : List Mark) (v w : WorldState) → AreMarks conditions marks v → does v Step ≡ Ok w →
    AreMarks conditions (marks_in conditions w) w
AreMarks-after law [] [] v w are given = tt
AreMarks-after law [] (m ∷ ms) v w are given = absurd are
AreMarks-after law (c ∷ cs) [] v w are given = absurd are
AreMarks-after law (c ∷ cs) (m ∷ ms) v w are given = (refl, are.1, law v w Step are.2 tt given, AreMarks-after law cs ms v w are.3 given)
