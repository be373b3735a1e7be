-- Whether a condition is met is seen by the marks of the part that is watched.
use Rattle.std.proofs.Common.{◌≡◌, ◌+◌, ◌-◌, ◌<◌, ◌∙◌, ◌++◌, ℕ, Bool, true, false, ◌||◌, not, List, [], ◌∷◌, length, take, get_or, Some, Ok, Err, Option, refl, ap, sym, subst, arith}
use Rattle.std.proofs.lemmas.List.{take_more}
use Rattle.std.proofs.Math.Seq.{take-length}
use Rattle.std.specs.Option.{option_and_then}
use Rattle.std.specs.Result.{result_ok}
use Rattle.undo_core.specs.Replay.{replay, put_back, TakesBack}
use Rattle.mix_machine.specs.Prelude.{WorldState, IsWorld, does, IsPart, is_altered, is_same_mark, mark_of, mark_before, put_value}
use Rattle.mix_machine.specs.declared.old.Old.{Old}
use Rattle.mix_machine.specs.declared.old.Change.{Change}
use Rattle.mix_machine.specs.declared.old.Change.TheVariants.{Step}
use Rattle.mix_machine.specs.declared.part.Part.{Part}
use Rattle.mix_machine.specs.declared.part.Mark.{Mark}
use Rattle.mix_session.specs.Prelude.{is_met_by, is_reached, watched, is_met, is_conflict, last_conflicts, has_conflict, Tells, Timeline, world_of, back_by, Back, Condition, Alters, At, Conflicts}

-- a change alters a part exactly where it alters its mark
abbrev pub AlteredLaw : Type 0
AlteredLaw =
    (v w : WorldState) (c : Change) (part : Part) → IsWorld v → IsPart part → does v c ≡ Ok w →
    is_altered part v w ≡ not (is_same_mark (mark_of v part) (mark_of w part))

-- values that are put back say the marks of the state before, which is one of the machine
abbrev pub BeforeLaw : Type 0
BeforeLaw =
    (olds : List Old) (w v : WorldState) (part : Part) → IsWorld w → IsPart part → put_back put_value olds w ≡ Some v →
    mark_before olds part (mark_of w part) ≡ mark_of v part

abbrev pub WorldLaw : Type 0
WorldLaw = (olds : List Old) (w v : WorldState) → IsWorld w → put_back put_value olds w ≡ Some v → IsWorld v

pub reached_by_marks : AlteredLaw → (condition : Condition) (conflicts : Bool) (before after now : WorldState) (c : Change) → IsPart (watched condition) → IsWorld before →
    does before c ≡ Ok after →
    is_reached condition conflicts before after now
    ≡ is_met condition conflicts (mark_of before (watched condition)) (mark_of after (watched condition)) (mark_of now (watched condition))
reached_by_marks law (Alters part) conflicts before after now c real world given = law before after c part world real given
reached_by_marks law (At place) conflicts before after now c real world given = refl
reached_by_marks law Conflicts conflicts before after now c real world given = refl

-- what is told of a conflict matters only where one is waited for
pub met_told : (condition : Condition) (told conflicts : Bool) (before after now : Mark) → (is_conflict condition ≡ true → told ≡ conflicts) →
    is_met condition told before after now ≡ is_met condition conflicts before after now
met_told (Alters part) told conflicts before after now tells = refl
met_told (At place) told conflicts before after now tells = refl
met_told Conflicts told conflicts before after now tells = tells refl

pub tells_first : (condition : Condition) (conditions : List Condition) (told conflicts : Bool) → Tells (condition ∷ conditions) told conflicts →
    is_conflict condition ≡ true → told ≡ conflicts
tells_first condition conditions told conflicts tells is = tells (rw is refl)

pub tells_rest : (condition : Condition) (conditions : List Condition) (told conflicts : Bool) → Tells (condition ∷ conditions) told conflicts → Tells conditions told conflicts
tells_rest condition conditions told conflicts tells some =
    tells (elim (is_conflict condition) as (λ b. (b || has_conflict conditions) ≡ true) [ true ↦ refl | false ↦ some ])

-- what was done once more was given by the state before
pub replay-given : {o p : Option WorldState} (v w : WorldState) (P : WorldState → WorldState → Type 0)
    → ((s : WorldState) → o ≡ Some s → (t : WorldState) × P s t × (p ≡ Some t)) → o ≡ Some v → p ≡ Some w → P v w
replay-given v w P given e f =
    let done = given v e in
    let same : done.0 ≡ w = cc in
    subst (λ t. P v t) same done.1

-- a change after others, which lead to v and with it to w, leads from v to w
pub replay-one : (s : WorldState) (cs : List Change) (c : Change) (v w : WorldState) → replay does s cs ≡ Some v → replay does s (cs ++ c ∷ []) ≡ Some w → does v c ≡ Ok w
replay-one s [] c v w e f =
    let same : s ≡ v = cc in
    (elim (does s c) as (λ r. does s c ≡ r → option_and_then (λ (t : WorldState). Some t) (result_ok r) ≡ Some w → does v c ≡ Ok w) [
      | Ok u ↦ λ given led. let there : u ≡ w = cc in rw (← same, given, there) refl
      | Err fault ↦ λ given led. absurd (cc)
    ]) refl f
replay-one s (d ∷ cs) c v w e f =
    (elim (does s d) as (λ r. option_and_then (λ (t : WorldState). replay does t cs) (result_ok r) ≡ Some v →
    option_and_then (λ (t : WorldState). replay does t (cs ++ c ∷ [])) (result_ok r) ≡ Some w → does v c ≡ Ok w) [
      | Ok u ↦ λ g h. replay-one u cs c v w g h
      | Err fault ↦ λ g h. absurd (cc)
    ]) e f

-- the next change ahead leads from the state before it to the one after it
pub ahead-given : (s : WorldState) (cs ahead : List Change) (v w : WorldState) → 0 < length ahead → replay does s cs ≡ Some v →
    replay does s (cs ++ take 1 ahead) ≡ Some w → (c : Change) × (does v c ≡ Ok w)
ahead-given s cs [] v w some e f = absurd (omega arith)
ahead-given s cs (c ∷ ahead) v w some e f = (c, replay-one s cs c v w e f)

-- the last of some changes leads from the state before it to the one after it
pub last-given : (s : WorldState) (cs : List Change) (n : ℕ) (v w : WorldState) → n < length cs → replay does s (take n cs) ≡ Some v →
    replay does s (take (n + 1) cs) ≡ Some w → (c : Change) × (does v c ≡ Ok w)
last-given s cs n v w below e f =
    (get_or cs n Step, replay-one s (take n cs) (get_or cs n Step) v w e (ap (replay does s) (sym (take_more cs n Step below)) ∙ f))

-- whether taking back one change more than k meets a condition
abbrev pub is_met_back : Condition → Timeline → ℕ → Bool
is_met_back condition t k = is_met_by (last_conflicts (back_by t k)) Back (world_of (back_by t k)) (world_of (back_by t (k + 1))) condition

-- What is known after k changes are looked at from the last one on: the state before them, and its mark.
pub record IsSeen (t : Timeline) (condition : Condition) (k : ℕ) (mark : Mark) (w : WorldState) : Type 0 where
  pub led : replay does t.first (take (length t.changes - k) t.changes) ≡ Some w
  pub world : IsWorld w
  pub marked : mark ≡ mark_of w (watched condition)

pub back-state : (t : Timeline) (k : ℕ) (w : WorldState) → replay does t.first (take (length t.changes - k) t.changes) ≡ Some w → world_of (back_by t k) ≡ w
unfolding world_of
back-state t k w led = rw led refl

-- none is looked at
pub seen-none : (t : Timeline) (condition : Condition) (mark : Mark) (w : WorldState) → replay does t.first t.changes ≡ Some w → IsWorld w →
    mark ≡ mark_of w (watched condition) → IsSeen t condition 0 mark w
seen-none t condition mark w led world marked =
    let all : length t.changes - 0 ≡ length t.changes = omega arith in
    record { led = rw (all, take-length) led; world = world; marked = marked }

-- one more is looked at, whose values take it back
pub seen-next : AlteredLaw → BeforeLaw → WorldLaw → (t : Timeline) (condition : Condition) (k : ℕ) (mark before : Mark) (is_met_now : Bool) (values : List Old) (w : WorldState) →
    k < length t.changes → is_conflict condition ≡ false → IsPart (watched condition) → IsSeen t condition k mark w →
    TakesBack does put_value t.first t.changes (length t.changes - 1 - k) values →
    before ≡ mark_before values (watched condition) mark → is_met_now ≡ is_met condition false before mark before →
    (v : WorldState) × IsSeen t condition (k + 1) before v × (is_met_now ≡ is_met_back condition t k)
seen-next altered before_law world_law t condition k mark before is_met_now values w below other real seen back is met =
    let n = length t.changes - 1 - k in
    let more : n + 1 ≡ length t.changes - k = omega arith in
    let fewer : length t.changes - (k + 1) ≡ n = omega arith in
    let taken = back w (rw more seen.led) in
    let v = taken.0 in
    let given = last-given t.first t.changes n v w (omega arith) taken.2 (rw more seen.led) in
    let marked : before ≡ mark_of v (watched condition) =
    is ∙ ap (mark_before values (watched condition)) seen.marked ∙ before_law values w v (watched condition) seen.world real taken.1 in
    let world = world_law values w v seen.world taken.1 in
    let led : replay does t.first (take (length t.changes - (k + 1)) t.changes) ≡ Some v = rw fewer taken.2 in
    let after_is : world_of (back_by t k) ≡ w = back-state t k w seen.led in
    let before_is : world_of (back_by t (k + 1)) ≡ v = back-state t (k + 1) v led in
    let conflicts = last_conflicts (back_by t k) in
    let told : is_met condition false before mark before ≡ is_met condition conflicts before mark before =
    met_told condition false conflicts before mark before (λ is_one. absurd (cc)) in
    let by_marks : is_met_now ≡ is_met condition conflicts (mark_of v (watched condition)) (mark_of w (watched condition)) (mark_of v (watched condition)) =
    met ∙ told ∙ rw (marked, seen.marked) refl in
    let reached : is_reached condition conflicts v w v ≡ is_met_now =
    reached_by_marks altered condition conflicts v w v given.0 real world given.1 ∙ sym by_marks in
    (v, record { led = led; world = world; marked = marked }, rw (after_is, before_is) (sym reached))

-- the change itself does so
pub change-given : (s : WorldState) (cs : List Change) (n : ℕ) (c : Change) (v w : WorldState) → n < length cs → c ≡ get_or cs n c → replay does s (take n cs) ≡ Some v →
    replay does s (take (n + 1) cs) ≡ Some w → does v c ≡ Ok w
change-given s cs n c v w below is e f =
    let one : take (n + 1) cs ≡ take n cs ++ c ∷ [] = take_more cs n c below ∙ ap (λ (d : Change). take n cs ++ d ∷ []) (sym is) in
    replay-one s (take n cs) c v w e (ap (replay does s) (sym one) ∙ f)
