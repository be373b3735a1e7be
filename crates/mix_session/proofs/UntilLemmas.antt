-- Which change is the nearest that meets one of some conditions.
use Rattle.std.proofs.Common.{◌≡◌, ◌+◌, ◌-◌, ◌<◌, ◌≤◌, ◌∙◌, ◌++◌, ◌||◌, ℕ, zero, suc, Bool, true, false, List, [], ◌∷◌, length, take, drop, get_or, Option, Some, Ok, Err, Result, refl, ap, sym, arith, ltb, is_some, length-append, if◌then◌else◌}
use Rattle.std.proofs.lemmas.Bool.Decides.{nat_tests}
use Rattle.std.proofs.lemmas.List.{take_more, take-append-drop, length-take-le, length-drop}
use Rattle.std.proofs.Math.Seq.{take-append_seam, drop-append_seam}
use Rattle.std.specs.List.{list_any}
use Rattle.std.specs.Result.{IsErr}
use Rattle.mix_refused.specs.declared.refused.Memory.{Memory}
use Rattle.undo_core.specs.Replay.{replay}
use Rattle.mix_machine.specs.Prelude.{WorldState, does, mark_of}
use Rattle.mix_machine.specs.declared.old.Change.{Change}
use Rattle.mix_machine.specs.declared.part.Mark.{Mark}
use Rattle.mix_session.specs.Command.{is_met_by, is_reached_back, is_reached_forth, count_back, count_forth, effect_of_back_until, effect_of_forth_until, least_below, refusal_effect, taken_back, sought, Effect, Begun, HasEffect}
use Rattle.mix_session.specs.Prelude.{IsBefore, is_reached, watched, last_conflicts, has_conflict, Tells, AreMarks, first_met, is_met_from, Timeline, world_of, back_by, forth_by, Answer, Again, Back, Condition}
use Rattle.mix_session.specs.declared.answer.Answer.TheVariants.{BackUntil, ForthUntil, Refused}
use Rattle.mix_session.specs.declared.fault.Refusal.TheVariants.{NoSuchChange}
use Rattle.mix_session.proofs.CommandLemmas.{least_below-is, least_below-beyond}
use Rattle.mix_session.proofs.ConditionLemmas.{AlteredLaw, ahead-given, is_met_back, reached_by_marks, met_told, tells_first, tells_rest}
use Rattle.mix_session.proofs.TimelineLemmas.{timeline-is, world_of-is, forth_by-none, forth_by-next}

-- no condition is met
any_of_none : (n : ℕ) → least_below n (λ k. false) ≡ n
any_of_none n = least_below-is n n (λ k. false) (omega arith) (λ short. absurd (omega (arith, short))) (λ j below. refl)

pub count_back-none : (t : Timeline) → count_back [] t ≡ length t.changes
unfolding count_back
count_back-none t = any_of_none (length t.changes)

-- tests that say the same have the same least number
least_below-same : (n : ℕ) (p q : ℕ → Bool) → ((k : ℕ) → p k ≡ q k) → least_below n p ≡ least_below n q
least_below-same zero p q same = refl
least_below-same (suc n) p q same = rw (same 0, least_below-same n (λ k. p (suc k)) (λ k. q (suc k)) (λ k. same (suc k))) refl

-- below the least number that passes one test, the least that passes another: the least that passes one of the two
least_below-either : (n : ℕ) (p q : ℕ → Bool) → least_below (least_below n p) q ≡ least_below n (λ k. p k || q k)
least_below-either zero p q = refl
least_below-either (suc n) p q =
    let more = least_below-either n (λ k. p (suc k)) (λ k. q (suc k)) in
    elim (p 0) as (λ b. least_below (if b then 0 else suc (least_below n (λ k. p (suc k)))) q
    ≡ (if b || q 0 then 0 else suc (least_below n (λ k. p (suc k) || q (suc k))))) [
      | true ↦ refl
      | false ↦ ap (λ m. if q 0 then 0 else suc m) more
    ]

least_below-within : (n : ℕ) (p : ℕ → Bool) → least_below n p ≤ n
least_below-within zero p = omega arith
least_below-within (suc n) p =
    let more = least_below-within n (λ k. p (suc k)) in
    elim (p 0) as (λ b. (if b then 0 else suc (least_below n (λ k. p (suc k)))) ≤ suc n) [ true ↦ omega arith | false ↦ omega (arith, more) ]

pub count_back-within : (conditions : List Condition) (t : Timeline) → count_back conditions t ≤ length t.changes
unfolding count_back
count_back-within conditions t = least_below-within (length t.changes) (is_reached_back conditions t)

any_more : (p : Condition → Bool) (conditions : List Condition) (c : Condition) → list_any p conditions || p c ≡ list_any p (conditions ++ c ∷ [])
any_more p [] c = elim (p c) as (λ b. b ≡ b || false) [ true ↦ refl | false ↦ refl ]
any_more p (d ∷ ds) c = elim (p d) as (λ b. (b || list_any p ds) || p c ≡ b || list_any p (ds ++ c ∷ [])) [ true ↦ refl | false ↦ any_more p ds c ]

-- one condition more is looked for, below the number of the others
pub count_back-more : (t : Timeline) (conditions : List Condition) (i : ℕ) (c : Condition) (n next : ℕ) → i < length conditions → c ≡ get_or conditions i c →
    n ≡ count_back (take i conditions) t → next ≡ least_below n (is_met_back c t) → next ≡ count_back (take (i + 1) conditions) t
unfolding count_back
count_back-more t conditions i c n next below at is more =
    let before = take i conditions in
    let here : take (i + 1) conditions ≡ before ++ c ∷ [] = take_more conditions i c below ∙ ap (λ d. before ++ d ∷ []) (sym at) in
    let either = least_below-either (length t.changes) (is_reached_back before t) (is_met_back c t) in
    let all = least_below-same (length t.changes) (λ k. is_reached_back before t k || is_met_back c t k) (is_reached_back (before ++ c ∷ []) t)
    (λ k. any_more (is_met_by (last_conflicts (back_by t k)) Back (world_of (back_by t k)) (world_of (back_by t (k + 1)))) before c) in
    more ∙ ap (λ m. least_below m (is_met_back c t)) is ∙ either ∙ all ∙ ap (λ cs. least_below (length t.changes) (is_reached_back cs t)) (sym here)

pub back_until-found : (conditions : List Condition) (t : Timeline) (k : ℕ) → k ≡ count_back conditions t → k < length t.changes →
    effect_of_back_until conditions t ≡ taken_back (has_conflict conditions) t (k + 1)
unfolding effect_of_back_until
back_until-found conditions t k is below = let some : ltb k (length t.changes) ≡ true = grind (arith, nat_tests) in rw (← is, some) refl

-- so many are taken back
pub taken-effect : (b : Bool) (t new : Timeline) (n : ℕ) → new ≡ back_by t n → HasEffect (taken_back b t n) t new (Ok (BackUntil n))
taken-effect false t new n led = (ap (λ (h : Timeline). h.first) led, led, refl)
taken-effect true t new n led = (ap (λ (h : Timeline). h.first) led, led, refl)

-- where a conflict is waited for, none may be taken back for want of memory
pub Begun-back : (conditions : List Condition) (t : Timeline) → has_conflict conditions ≡ true → Begun (effect_of_back_until conditions t) t
unfolding effect_of_back_until
Begun-back conditions t waits =
    let k = count_back conditions t in
    rw waits (elim (ltb k (length t.changes)) as (λ b. Begun (if b then taken_back true t (k + 1) else refusal_effect t NoSuchChange) t) [
      | true ↦ (0, omega arith, refl)
      | false ↦ (0, omega arith, refl)
    ])

pub back_until-none : (conditions : List Condition) (t : Timeline) (k : ℕ) → k ≡ count_back conditions t → length t.changes ≤ k →
    effect_of_back_until conditions t ≡ refusal_effect t NoSuchChange
unfolding effect_of_back_until
back_until-none conditions t k is all = let none : ltb k (length t.changes) ≡ false = grind (arith, nat_tests) in rw (← is, none) refl

-- one change more done again after k
pub forth_by-one : (t : Timeline) (k : ℕ) → forth_by (forth_by t k) 1 ≡ forth_by t (k + 1)
forth_by-one t k = forth_by-next t (forth_by t k) (forth_by (forth_by t k) 1) k refl refl refl refl

pub reached_forth-at : (conditions : List Condition) (t : Timeline) (k : ℕ) → is_reached_forth conditions (forth_by t k) 0 ≡ is_reached_forth conditions t k
reached_forth-at conditions t k =
    let now = forth_by t k in
    ap (λ (s : Timeline). list_any (is_met_by (last_conflicts (forth_by now 1)) Again (world_of s) (world_of (forth_by now 1))) conditions) (sym (forth_by-none now))
    ∙ ap (λ (s : Timeline). list_any (is_met_by (last_conflicts s) Again (world_of now) (world_of s)) conditions) (forth_by-one t k)

-- by the states before and after the next change ahead
pub reached_forth-is : (conditions : List Condition) (t : Timeline) (v w : WorldState) → world_of t ≡ v → world_of (forth_by t 1) ≡ w →
    is_reached_forth conditions t 0 ≡ list_any (is_met_by (last_conflicts (forth_by t 1)) Again v w) conditions
reached_forth-is conditions t v w e f = rw (← forth_by-none t, e, f) refl

-- what is done again and taken back is as it was
pub back-forth : (t : Timeline) (n : ℕ) → n ≤ length t.ahead → back_by (forth_by t n) n ≡ t
back-forth t n within =
    let some = take n t.ahead in
    let len : length some ≡ n = length-take-le n t.ahead within in
    let left : length (t.changes ++ some) - n ≡ length t.changes = omega (arith, length-append t.changes some) in
    let done : take (length (t.changes ++ some) - n) (t.changes ++ some) ≡ t.changes = rw left (take-append_seam t.changes some) in
    let ahead : drop (length (t.changes ++ some) - n) (t.changes ++ some) ++ drop n t.ahead ≡ t.ahead = rw left (rw drop-append_seam (take-append-drop n t.ahead)) in
    sym (timeline-is t t.first (take (length (t.changes ++ some) - n) (t.changes ++ some)) (drop (length (t.changes ++ some) - n) (t.changes ++ some) ++ drop n t.ahead) refl (sym done) (sym ahead))

-- so many changes are done again without meeting the condition, and the next one meets it
pub forth_until-found : (conditions : List Condition) (t : Timeline) (k : ℕ) → k < length t.ahead → is_reached_forth conditions t k ≡ true →
    ((j : ℕ) → j < k → is_reached_forth conditions t j ≡ false) →
    effect_of_forth_until conditions t ≡ record { stage = forth_by t; last = k + 1; answer = ForthUntil (k + 1) }
unfolding effect_of_forth_until count_forth
forth_until-found conditions t k below here before =
    let is = least_below-is (length t.ahead) k (is_reached_forth conditions t) (omega (arith, below)) (λ _. here) before in
    let some : ltb k (length t.ahead) ≡ true = grind (arith, nat_tests) in
    rw (is, some) refl

-- none of those ahead meets it
pub forth_until-none : (conditions : List Condition) (t : Timeline) (k : ℕ) → k ≡ length t.ahead → ((j : ℕ) → j < k → is_reached_forth conditions t j ≡ false) →
    effect_of_forth_until conditions t ≡ record { stage = sought t; last = length t.ahead; answer = Refused NoSuchChange }
unfolding effect_of_forth_until count_forth
forth_until-none conditions t k all before =
    let is = least_below-is (length t.ahead) (length t.ahead) (is_reached_forth conditions t) (omega arith) (λ short. absurd (omega (arith, short))) (rw all at before) in
    let none : ltb (length t.ahead) (length t.ahead) ≡ false = grind (arith, nat_tests) in
    rw (is, none) refl

-- at the end of what stands ahead, all is as it was
pub sought-end : (t : Timeline) → t ≡ sought t (length t.ahead)
sought-end t = let none : ltb (length t.ahead) (length t.ahead) ≡ false = grind (arith, nat_tests) in rw none refl

-- at its beginning too
sought-none : (t : Timeline) → t ≡ sought t 0
sought-none t =
    elim (ltb 0 (length t.ahead)) as (λ b. t ≡ (if b then forth_by t 0 else t)) [ true ↦ forth_by-none t | false ↦ refl ]

-- so many are done again, and no more for want of memory
pub Begun-forth : (conditions : List Condition) (t now : Timeline) (k : ℕ) → k < length t.ahead → now ≡ forth_by t k →
    ((j : ℕ) → j < k → is_reached_forth conditions t j ≡ false) → Begun (effect_of_forth_until conditions t) now
unfolding effect_of_forth_until count_forth
Begun-forth conditions t now k below is before =
    let n = least_below (length t.ahead) (is_reached_forth conditions t) in
    let least : k ≤ n = least_below-beyond (length t.ahead) k (is_reached_forth conditions t) (omega (arith, below)) before in
    let some : ltb k (length t.ahead) ≡ true = grind (arith, nat_tests) in
    let on_way : now ≡ sought t k = rw some is in
    elim (ltb n (length t.ahead)) as (λ b. Begun (if b then record { stage = forth_by t; last = n + 1; answer = ForthUntil (n + 1) }
    else record { stage = sought t; last = length t.ahead; answer = Refused NoSuchChange }) now) [
      | true ↦ (k, omega (arith, least), is)
      | false ↦ (k, omega (arith, below), on_way)
    ]

-- that is before the last
pub before-forth : (conditions : List Condition) (t now : Timeline) (k : ℕ) → k < length t.ahead → now ≡ forth_by t k →
    ((j : ℕ) → j < k → is_reached_forth conditions t j ≡ false) → IsBefore (effect_of_forth_until conditions t) now
unfolding effect_of_forth_until count_forth
before-forth conditions t now k below is before =
    let n = least_below (length t.ahead) (is_reached_forth conditions t) in
    let least : k ≤ n = least_below-beyond (length t.ahead) k (is_reached_forth conditions t) (omega (arith, below)) before in
    let some : ltb k (length t.ahead) ≡ true = grind (arith, nat_tests) in
    let on_way : now ≡ sought t k = rw some is in
    elim (ltb n (length t.ahead)) as (λ b. IsBefore (if b then record { stage = forth_by t; last = n + 1; answer = ForthUntil (n + 1) }
    else record { stage = sought t; last = length t.ahead; answer = Refused NoSuchChange }) now) [
      | true ↦ (k, omega (arith, least), is)
      | false ↦ (k, below, on_way)
    ]

-- none is done again
pub Begun-forth_none : (conditions : List Condition) (t : Timeline) → Begun (effect_of_forth_until conditions t) t
unfolding effect_of_forth_until count_forth
Begun-forth_none conditions t =
    let n = least_below (length t.ahead) (is_reached_forth conditions t) in
    elim (ltb n (length t.ahead)) as (λ b. Begun (if b then record { stage = forth_by t; last = n + 1; answer = ForthUntil (n + 1) }
    else record { stage = sought t; last = length t.ahead; answer = Refused NoSuchChange }) t) [
      | true ↦ (0, omega arith, forth_by-none t)
      | false ↦ (0, omega arith, sought-none t)
    ]

-- a first condition is found exactly where one is met
found_met : (b : Bool) (i : ℕ) (found : Option ℕ) (others : Bool) → is_some found ≡ others → is_some (if b then Some i else found) ≡ b || others
found_met true i found others same = refl
found_met false i found others same = same

met_by_marks : AlteredLaw → (v w : WorldState) (change : Change) (told conflicts : Bool) → does v change ≡ Ok w → (i : ℕ) (conditions : List Condition) (marks : List Mark) →
    Tells conditions told conflicts → AreMarks conditions marks v → is_some (first_met told i conditions marks w) ≡ list_any (is_met_by conflicts Again v w) conditions
met_by_marks law v w change told conflicts given i [] [] tells are = refl
met_by_marks law v w change told conflicts given i [] (m ∷ ms) tells are = absurd are
met_by_marks law v w change told conflicts given i (c ∷ cs) [] tells are = absurd are
met_by_marks law v w change told conflicts given i (c ∷ cs) (m ∷ ms) tells are =
    let one = met_told c told conflicts m (mark_of w (watched c)) (mark_of w (watched c)) (tells_first c cs told conflicts tells) in
    let met : is_met_from told m w c ≡ is_reached c conflicts v w w = one ∙ rw are.0 (sym (reached_by_marks law c conflicts v w w change are.1 are.2 given)) in
    let more = met_by_marks law v w change told conflicts given (i + 1) cs ms (tells_rest c cs told conflicts tells) are.3 in
    rw met (found_met (is_reached c conflicts v w w) i (first_met told (i + 1) cs ms w) (list_any (is_met_by conflicts Again v w) cs) more)

-- the next change ahead, done again, by the marks before and after it
pub forth_by_marks : AlteredLaw → (conditions : List Condition) (t next : Timeline) (v w : WorldState) (told : Bool) (marks : List Mark) (found : Option ℕ) → 0 < length t.ahead →
    next ≡ forth_by t 1 → replay does t.first t.changes ≡ Some v → replay does next.first next.changes ≡ Some w → Tells conditions told (last_conflicts next) →
    AreMarks conditions marks (world_of t) → found ≡ first_met told 0 conditions marks w → is_some found ≡ is_reached_forth conditions t 0
forth_by_marks law conditions t next v w told marks found some led here there tells are is =
    let given = ahead-given t.first t.changes t.ahead v w some here (rw led at there) in
    let before : world_of t ≡ v = world_of-is t t v refl here in
    ap is_some is ∙ met_by_marks law v w given.0 told (last_conflicts (forth_by t 1)) given.1 0 conditions marks (rw led at tells) (rw before at are)
    ∙ sym (reached_forth-is conditions t v w before (world_of-is (forth_by t 1) next w led there))

-- the timeline after it
pub forth_by-led : (t next : Timeline) → next.first ≡ t.first → next.changes ≡ t.changes ++ take 1 t.ahead → next.ahead ≡ drop 1 t.ahead → next ≡ forth_by t 1
forth_by-led t next first changes ahead = timeline-is next t.first (t.changes ++ take 1 t.ahead) (drop 1 t.ahead) first changes ahead

-- the marks after it
pub marks_after : (conditions : List Condition) (next : Timeline) (w : WorldState) (marks : List Mark) → replay does next.first next.changes ≡ Some w →
    AreMarks conditions marks w → AreMarks conditions marks (world_of next)
marks_after conditions next w marks there are = rw (world_of-is next next w refl there) are

-- the marks of some conditions, where the conditions are in a slice and the marks the first of some
pub marks_there : (t : Timeline) (w : WorldState) (conditions slice : List Condition) (marks : List Mark) (n : ℕ) → replay does t.first t.changes ≡ Some w →
    slice ≡ conditions → n ≡ length conditions → AreMarks conditions (take (length conditions) marks) w → AreMarks slice (take n marks) (world_of t)
marks_there t w conditions slice marks n here is count are = rw (is, count, world_of-is t t w refl here) are

-- something is left ahead while fewer are done again than stand there
pub ahead-left : (t now : Timeline) (k : ℕ) → k < length t.ahead → now ≡ forth_by t k → 0 < length now.ahead
ahead-left t now k below is = let left = length-drop k t.ahead in rw is (omega (arith, below, left))

-- out of memory, a command is begun
pub effect-err : (effect : Effect) (old new : Timeline) (answer : Result Answer Memory) → IsErr answer → new.first ≡ old.first → Begun effect new →
    HasEffect effect old new answer
effect-err effect old new (Ok answer) err first begun = absurd (cc)
effect-err effect old new (Err memory) err first begun = (first, begun)

-- what was done again can be taken back
pub forth-length : (t now : Timeline) (n : ℕ) → n ≤ length t.ahead → now ≡ forth_by t n → n ≤ length now.changes
forth-length t now n within is =
    let some = length-take-le n t.ahead within in
    rw is (omega (arith, some, length-append t.changes (take n t.ahead)))
