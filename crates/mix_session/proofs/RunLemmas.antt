-- Why a run ends is seen by the marks of what is watched.
use Rattle.std.proofs.Common.{◌≡◌, ◌+◌, ◌<◌, ◌∙◌, ◌++◌, ℕ, zero, suc, Bool, true, false, not, List, [], ◌∷◌, length, take, get_or, position, Option, None, Some, Ok, refl, ap, sym, arith, add-zero, zero-add, add-one, eqb, if◌then◌else◌}
use Rattle.std.proofs.lemmas.Bool.Decides.{nat_tests}
use Rattle.std.specs.Bool.{beq}
use Rattle.std.proofs.lemmas.Iterator.Adapters.{position_from-zero}
use Rattle.std.specs.List.{position_from}
use Rattle.std.specs.Option.{option_or, option_map}
use Rattle.mix_word.specs.declared.word.Sign.{Sign}
use Rattle.mix_word.specs.declared.word.Sign.TheVariants.{Plus, Minus}
use Rattle.mix_word.specs.declared.word.Cmp.{Cmp}
use Rattle.mix_word.specs.Word.{is_same_sign}
use Rattle.mix_word.specs.declared.word.Cmp.TheVariants.{Less, Equal, Greater}
use Rattle.mix_machine.specs.Prelude.{WorldState, IsWorld, does, IsPart, is_same_indicator, is_same_mark, mark_of}
use Rattle.mix_machine.specs.declared.old.Change.TheVariants.{Step}
use Rattle.mix_machine.specs.declared.part.Part.{Part}
use Rattle.mix_machine.specs.declared.part.Mark.{Mark}
use Rattle.mix_machine.specs.declared.part.Mark.TheVariants as mark
use Rattle.mix_session.specs.Command.{is_met_by, is_halt_done, move_conflicts, end_there, end_of_move, end_of_last}
use Rattle.mix_session.specs.Prelude.{is_reached, watched, is_met, is_conflict, has_conflict, Tells, StopsState, Timeline, world_of, moved, Way, New, Again, Back, Condition, Alters, At, Conflicts, End}
use Rattle.mix_session.specs.Marks.{IsMove, AreMarks, is_met_from, first_met, end_by_marks}
use Rattle.mix_session.proofs.CommandLemmas.{end_of_last-next}
use Rattle.mix_session.specs.declared.reply.End.TheVariants.{Halt, Until}
use Rattle.mix_session.proofs.ConditionLemmas.{AlteredLaw, reached_by_marks, met_told, tells_first, tells_rest}

equal-sym : (m n : ℕ) → eqb m n ≡ eqb n m
equal-sym m n = grind (arith, nat_tests)

same_sign-sym : (s t : Sign) → is_same_sign s t ≡ is_same_sign t s
same_sign-sym Plus Plus = refl
same_sign-sym Plus Minus = refl
same_sign-sym Minus Plus = refl
same_sign-sym Minus Minus = refl

same_toggle-sym : (a b : Bool) → beq a b ≡ beq b a
same_toggle-sym true true = refl
same_toggle-sym true false = refl
same_toggle-sym false true = refl
same_toggle-sym false false = refl

same_indicator-sym : (c d : Cmp) → is_same_indicator c d ≡ is_same_indicator d c
same_indicator-sym Less Less = refl
same_indicator-sym Equal Equal = refl
same_indicator-sym Greater Greater = refl
same_indicator-sym _ _ = refl

same_mark-sym : (m n : Mark) → is_same_mark m n ≡ is_same_mark n m
same_mark-sym (mark.Word v) (mark.Word w) = rw (same_sign-sym v.sign w.sign, equal-sym v.magnitude w.magnitude) refl
same_mark-sym (mark.Toggle a) (mark.Toggle b) = same_toggle-sym a b
same_mark-sym (mark.Indicator c) (mark.Indicator d) = same_indicator-sym c d
same_mark-sym (mark.Location m) (mark.Location n) = equal-sym m n
same_mark-sym (mark.Time s) (mark.Time t) = equal-sym s t
same_mark-sym _ _ = refl

-- a condition on a step that is done, by the marks
forth_by_marks : AlteredLaw → (told conflicts : Bool) (old now : WorldState) (condition : Condition) → (is_conflict condition ≡ true → told ≡ conflicts) →
    IsPart (watched condition) → IsWorld old → does old Step ≡ Ok now →
    is_reached condition conflicts old now now ≡ is_met_from told (mark_of old (watched condition)) now condition
forth_by_marks law told conflicts old now condition tells real before given =
    reached_by_marks law condition conflicts old now now Step real before given
    ∙ sym (met_told condition told conflicts (mark_of old (watched condition)) (mark_of now (watched condition)) (mark_of now (watched condition)) tells)

met_by_marks : AlteredLaw → (way : Way) (told conflicts : Bool) (old now : WorldState) (condition : Condition) → (is_conflict condition ≡ true → told ≡ conflicts) →
    IsPart (watched condition) → IsWorld old → IsWorld now → IsMove way old now →
    is_met_by conflicts way old now condition ≡ is_met_from told (mark_of old (watched condition)) now condition
met_by_marks law New told conflicts old now condition tells real before after move = forth_by_marks law told conflicts old now condition tells real before move
met_by_marks law Again told conflicts old now condition tells real before after move = forth_by_marks law told conflicts old now condition tells real before move
met_by_marks law Back told conflicts old now (Alters part) tells real before after move =
    law now old move.0 part after real move.1 ∙ ap not (same_mark-sym (mark_of now part) (mark_of old part))
met_by_marks law Back told conflicts old now (At place) tells real before after move = refl
met_by_marks law Back told conflicts old now Conflicts tells real before after move = sym (tells refl)

first_met-from : AlteredLaw → (way : Way) (told conflicts : Bool) (old now : WorldState) → IsMove way old now → (i : ℕ) (conditions : List Condition) (before after : List Mark) →
    Tells conditions told conflicts → AreMarks conditions before old → AreMarks conditions after now →
    position_from (is_met_by conflicts way old now) i conditions ≡ first_met told i conditions before now
first_met-from law way told conflicts old now move i [] [] [] tells old_marks now_marks = refl
first_met-from law way told conflicts old now move i [] [] (n ∷ after) tells old_marks now_marks = absurd now_marks
first_met-from law way told conflicts old now move i [] (m ∷ before) after tells old_marks now_marks = absurd old_marks
first_met-from law way told conflicts old now move i (c ∷ cs) [] after tells old_marks now_marks = absurd old_marks
first_met-from law way told conflicts old now move i (c ∷ cs) (m ∷ before) [] tells old_marks now_marks = absurd now_marks
first_met-from law way told conflicts old now move i (c ∷ cs) (m ∷ before) (n ∷ after) tells old_marks now_marks =
    let met = met_by_marks law way told conflicts old now c (tells_first c cs told conflicts tells) old_marks.1 old_marks.2 now_marks.2 move in
    let more = first_met-from law way told conflicts old now move (i + 1) cs before after (tells_rest c cs told conflicts tells) old_marks.3 now_marks.3 in
    rw (met, old_marks.0, more) refl

-- what ends a run after a change, by the marks
move_by_marks : AlteredLaw → (way : Way) (stops : StopsState) (old now : WorldState) (halts told conflicts : Bool) (before after : List Mark) → IsMove way old now →
    Tells stops.watched told conflicts → AreMarks stops.watched before old → AreMarks stops.watched after now → halts ≡ is_halt_done way old →
    end_of_move conflicts way stops old now ≡ end_by_marks halts told stops before now
move_by_marks law way stops old now halts told conflicts before after move tells old_marks now_marks halted =
    let met : position (is_met_by conflicts way old now) stops.watched ≡ first_met told 0 stops.watched before now =
    position_from-zero (is_met_by conflicts way old now) stops.watched ∙ first_met-from law way told conflicts old now move 0 stops.watched before after tells old_marks now_marks in
    rw (met, halted) refl

-- how one change more ends a run, by the marks
pub last_by_marks : AlteredLaw → (way : Way) (stops : StopsState) (t : Timeline) (k : ℕ) (old now : WorldState) (halts told : Bool) (before after : List Mark) →
    world_of (moved way t k) ≡ old → world_of (moved way t (k + 1)) ≡ now → IsMove way old now →
    Tells stops.watched told (move_conflicts way (moved way t k) (moved way t (k + 1))) → AreMarks stops.watched before old →
    AreMarks stops.watched after now → halts ≡ is_halt_done way old → end_of_last way stops t (k + 1) ≡ end_by_marks halts told stops before now
last_by_marks law way stops t k old now halts told before after here there move tells old_marks now_marks halted =
    end_of_last-next way stops t k old now here there
    ∙ move_by_marks law way stops old now halts told (move_conflicts way (moved way t k) (moved way t (k + 1))) before after move tells old_marks now_marks halted

found_none : (b : Bool) (i : ℕ) (found : Option ℕ) → (if b then Some i else found) ≡ None → found ≡ None
found_none true i found none = absurd (cc)
found_none false i found none = none

told_none : (told : Bool) (i : ℕ) (found : Option ℕ) → (if told then Some i else found) ≡ None → told ≡ false
told_none true i found none = absurd (cc)
told_none false i found none = refl

-- no condition is met, so no conflict is told where one is waited for
none_told : (told : Bool) (i : ℕ) (conditions : List Condition) (marks : List Mark) (now : WorldState) → length conditions ≡ length marks →
    first_met told i conditions marks now ≡ None → has_conflict conditions ≡ true → told ≡ false
none_told told i [] marks now marked none some = absurd (cc)
none_told told i (c ∷ cs) [] now marked none some = absurd (omega arith)
none_told told i (Conflicts ∷ cs) (m ∷ ms) now marked none some = told_none told i (first_met told (i + 1) cs ms now) none
none_told told i (Alters part ∷ cs) (m ∷ ms) now marked none some =
    none_told told (i + 1) cs ms now (omega (arith, marked)) (found_none (is_met_from told m now (Alters part)) i (first_met told (i + 1) cs ms now) none) some
none_told told i (At place ∷ cs) (m ∷ ms) now marked none some =
    none_told told (i + 1) cs ms now (omega (arith, marked)) (found_none (is_met_from told m now (At place)) i (first_met told (i + 1) cs ms now) none) some

pub met_none : (halts : Bool) (met : Option ℕ) (there : Option End) → (if halts then Some Halt else option_or (option_map Until met) there) ≡ None → met ≡ None
met_none true met there none = absurd (cc)
met_none false (Some index) there none = absurd (cc)
met_none false None there none = refl

-- a run goes on, so no conflict was told where one is waited for
pub goes_on : (stops : StopsState) (halts told : Bool) (marks : List Mark) (now : WorldState) → length stops.watched ≡ length marks →
    end_by_marks halts told stops marks now ≡ None → has_conflict stops.watched ≡ true → told ≡ false
goes_on stops halts told marks now marked none =
    none_told told 0 stops.watched marks now marked (met_none halts (first_met told 0 stops.watched marks now) (end_there stops now) none)

pub AreMarks-length : (conditions : List Condition) (marks : List Mark) (w : WorldState) → AreMarks conditions marks w → length conditions ≡ length marks
AreMarks-length [] [] w are = refl
AreMarks-length [] (m ∷ ms) w are = absurd are
AreMarks-length (c ∷ cs) [] w are = absurd are
AreMarks-length (c ∷ cs) (m ∷ ms) w are = let rest = AreMarks-length cs ms w are.3 in cc

-- one mark more
pub AreMarks-push : (conditions : List Condition) (marks : List Mark) (w : WorldState) (i : ℕ) (c : Condition) (m : Mark) → i < length conditions →
    c ≡ get_or conditions i c → AreMarks (take i conditions) marks w → m ≡ mark_of w (watched c) → IsPart (watched c) → IsWorld w →
    AreMarks (take (suc i) conditions) (marks ++ m ∷ []) w
AreMarks-push [] marks w i c m below at are is real world = absurd (omega arith)
AreMarks-push (d ∷ ds) [] w zero c m below at are is real world = let same : c ≡ d = at in rw (← same) (is, real, world, tt)
AreMarks-push (d ∷ ds) (n ∷ ns) w zero c m below at are is real world = absurd are
AreMarks-push (d ∷ ds) [] w (suc i) c m below at are is real world = absurd are
AreMarks-push (d ∷ ds) (n ∷ ns) w (suc i) c m below at are is real world =
    (are.0, are.1, are.2, AreMarks-push ds ns w i c m (omega arith) at are.3 is real world)

or_later : (b : Bool) (o p q : Option ℕ) (j : ℕ) → p ≡ option_or q o → (if b then Some j else p) ≡ option_or (if b then Some j else q) o
or_later true o p q j e = refl
or_later false o p q j e = e

-- one condition more is looked at
pub first_met-next : (told : Bool) (j : ℕ) (conditions : List Condition) (marks : List Mark) (w : WorldState) (i : ℕ) (c : Condition) (m : Mark) → i < length conditions → i < length marks →
    c ≡ get_or conditions i c → m ≡ get_or marks i m →
    first_met told j (take (suc i) conditions) marks w ≡ option_or (first_met told j (take i conditions) marks w) (if is_met_from told m w c then Some (j + i) else None)
first_met-next told j [] marks w i c m below marked at m_at = absurd (omega arith)
first_met-next told j (d ∷ ds) [] w i c m below marked at m_at = absurd (omega arith)
first_met-next told j (d ∷ ds) (n ∷ ns) w zero c m below marked at m_at =
    let same : c ≡ d = at in let same_mark : m ≡ n = m_at in rw (same, same_mark, add-zero) refl
first_met-next told j (d ∷ ds) (n ∷ ns) w (suc i) c m below marked at m_at =
    let index : j + 1 + i ≡ j + suc i = omega arith in
    or_later (is_met_from told n w d) (if is_met_from told m w c then Some (j + suc i) else None) (first_met told (j + 1) (take (suc i) ds) ns w) (first_met told (j + 1) (take i ds) ns w) j
    (rw index at (first_met-next told (j + 1) ds ns w i c m (omega arith) (omega arith) at m_at))

-- the first condition that is met, of one more
pub looked_at : (conditions : List Condition) (old marks : List Mark) (w : WorldState) (i : ℕ) (c : Condition) (m n : Mark) (part : Part) (found next : Option ℕ) (told met : Bool) →
    i < length conditions → i < length old → c ≡ get_or conditions i c → m ≡ get_or marks i m → get_or marks i m ≡ get_or old i m →
    found ≡ first_met told 0 (take i conditions) old w → part ≡ watched c → n ≡ mark_of w part → met ≡ is_met c told (get_or marks i m) n n →
    next ≡ option_or found (if met then Some i else None) → next ≡ first_met told 0 (take (i + 1) conditions) old w
looked_at conditions old marks w i c m n part found next told met below within at m_at same found_is part_is n_is met_is next_is =
    let this : met ≡ is_met_from told m w c = met_is ∙ rw (← m_at, n_is, part_is) refl in
    let more = first_met-next told 0 conditions old w i c m below within at (m_at ∙ same) in
    let here : next ≡ option_or (first_met told 0 (take i conditions) old w) (if is_met_from told m w c then Some (0 + i) else None) =
    rw (next_is, found_is, this, zero-add) refl in
    rw add-one (here ∙ sym more)
