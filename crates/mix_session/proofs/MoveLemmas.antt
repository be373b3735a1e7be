-- What one change more of a run does, over plain variables.
use Rattle.std.proofs.Common.{◌≡◌, ◌+◌, ◌-◌, ◌<◌, ◌∙◌, ◌++◌, ℕ, Bool, true, false, List, [], ◌∷◌, length, take, drop, get_or, Option, None, Some, Result, Ok, Err, refl, ap, arith, eqb, IsSome}
use Rattle.std.proofs.lemmas.Bool.Decides.{nat_tests}
use Rattle.std.proofs.Math.Seq.{take-length}
use Rattle.std.specs.Result.{IfOk, IsOk}
use Rattle.mix_refused.specs.declared.refused.Memory.{Memory}
use Rattle.undo_core.specs.Prelude.{HoldsOfState, replay}
use Rattle.mix_machine.specs.Prelude.{WorldState, does}
use Rattle.mix_machine.specs.declared.old.Change.{Change}
use Rattle.mix_machine.specs.declared.old.Change.TheVariants.{Step}
use Rattle.mix_machine.specs.declared.fault.MixFault.{MixFault}
use Rattle.mix_machine.specs.declared.part.Mark.{Mark}
use Rattle.mix_session.specs.Prelude.{end_of_last, fault_end, is_halt_done, move_conflicts, KnownState, Knows, LooksOn, Tells, HasMoved, AreMarks, end_by_marks, StopsState, Timeline, world_of, begins_with_step, moved, back_by, forth_by, Way, New, Again, Back, End}
use Rattle.mix_session.specs.declared.reply.End.TheVariants.{Fault}
use Rattle.mix_session.proofs.TimelineLemmas.{timeline-is, world_of-is, holds_now, back_by-none, back_by-next, first-step}
use Rattle.mix_session.proofs.CommandLemmas.{fault_end-ok, moved-next}
use Rattle.mix_session.proofs.ConditionLemmas.{AlteredLaw, replay-given, replay-one, last-given}
use Rattle.mix_session.proofs.KnownLemmas.{one_known}
use Rattle.mix_session.proofs.RunLemmas.{last_by_marks, goes_on, AreMarks-length}

-- a new step is done
pub HasMoved-new : (t next : Timeline) → IsSome (replay does t.first t.changes) → next.first ≡ t.first → next.changes ≡ t.changes ++ Step ∷ [] → next.ahead ≡ [] →
    HoldsOfState does t (λ s. (u : WorldState) × (does s Step ≡ Ok u) × (replay does next.first next.changes ≡ Some u)) → HasMoved New t next None
HasMoved-new t next stands first changes ahead given =
    let here = holds_now t stands given in
    (timeline-is next t.first (t.changes ++ Step ∷ []) [] first changes ahead, ap fault_end here.1, λ v w e f. replay-given v w (λ s u. does s Step ≡ Ok u) given e f)

-- a new step is a fault
pub HasMoved-fault : (t next : Timeline) (fault : MixFault) → IsSome (replay does t.first t.changes) → next ≡ t →
    HoldsOfState does t (λ s. does s Step ≡ Err fault) → HasMoved New t next (Some (Fault fault))
HasMoved-fault t next fault stands same given = (same, ap fault_end (holds_now t stands given))

-- a step that can be done
pub more-new : (t : Timeline) → IsSome (replay does t.first t.changes) → HoldsOfState does t (λ s. IsOk (does s Step)) → fault_end (does (world_of t) Step) ≡ None
more-new t stands given = fault_end-ok (does (world_of t) Step) (holds_now t stands given)

next-step : (ahead : List Change) → begins_with_step ahead ≡ true → Step ≡ get_or ahead 0 Step
next-step [] begins = absurd (cc)
next-step (Step ∷ rest) begins = refl
next-step (other ∷ rest) begins = absurd (cc)

-- and one that stands ahead
pub more-again : (t : Timeline) (v : WorldState) → begins_with_step t.ahead ≡ true → replay does t.first t.changes ≡ Some v →
    ((c : Change) → c ≡ get_or t.ahead 0 c → HoldsOfState does t (λ s. IsOk (does s c))) → fault_end (does (world_of t) Step) ≡ None
more-again t v begins here given = rw (world_of-is t t v refl here) (fault_end-ok (does v Step) (given Step (next-step t.ahead begins) v here))

-- the step that stands ahead is done again
pub HasMoved-again : (t next : Timeline) (v w : WorldState) → begins_with_step t.ahead ≡ true → next.first ≡ t.first → next.changes ≡ t.changes ++ take 1 t.ahead →
    next.ahead ≡ drop 1 t.ahead → replay does t.first t.changes ≡ Some v → replay does next.first next.changes ≡ Some w → HasMoved Again t next None
HasMoved-again t next v w begins first changes ahead here there =
    let led : next ≡ forth_by t 1 = timeline-is next t.first (t.changes ++ take 1 t.ahead) (drop 1 t.ahead) first changes ahead in
    let given : does v Step ≡ Ok w = replay-one t.first t.changes Step v w here (rw (first, changes, first-step t.ahead begins) at there) in
    let state = world_of-is t t v refl here in
    (rw begins led, rw (state, given) refl, λ s u e f. let same : v ≡ s = cc in let same_next : w ≡ u = cc in rw (← same, ← same_next) given)

-- where no step stands ahead, a new one is done
HasMoved-none_ahead : (t next : Timeline) (end : Option End) → begins_with_step t.ahead ≡ false → HasMoved New t next end → HasMoved Again t next end
HasMoved-none_ahead t next None none has = (rw none has.0, has.1, has.2)
HasMoved-none_ahead t next (Some end) none has = has

pub ok-none_ahead : (t next : Timeline) (r : Result (Option End) Memory) → begins_with_step t.ahead ≡ false → IfOk r (HasMoved New t next) →
    IfOk r (HasMoved Again t next)
ok-none_ahead t next (Ok end) none has = HasMoved-none_ahead t next end none has
ok-none_ahead t next (Err memory) none has = tt

-- the last change is taken back
pub HasMoved-back : (t next : Timeline) → 0 < length t.changes → next.first ≡ t.first → next.changes ≡ take (length t.changes - 1) t.changes →
    next.changes ++ next.ahead ≡ t.changes ++ t.ahead → HasMoved Back t next None
HasMoved-back t next some first changes all =
    let led : next ≡ back_by t 1 = back_by-next t t next 0 1 (omega (arith, some)) (back_by-none t) first changes all in
    let left : eqb (length t.changes) 0 ≡ false = grind (arith, nat_tests) in
    let one : length t.changes - 1 + 1 ≡ length t.changes = omega arith in
    let whole : take (length t.changes - 1 + 1) t.changes ≡ t.changes = rw (one, take-length) refl in (
      led,
      rw left refl,
      λ v w e f.
          last-given t.first t.changes (length t.changes - 1) w v (omega (arith, some)) (rw (first, changes) at f) (ap (replay does t.first) whole ∙ e),
    )

same_first : (c : Change) (rest others : List Change) → begins_with_step (c ∷ rest) ≡ begins_with_step (c ∷ others)
same_first Step rest others = refl
same_first other rest others = refl

-- one change more: the timeline after it, why the run then ends, the marks, and what is known of conflicts
pub one_more : AlteredLaw → (way : Way) (stops : StopsState) (t now next : Timeline) (k : ℕ) (v w : WorldState) (halts told : Bool) (before after : List Mark)
    (old new : KnownState) → now ≡ moved way t k → replay does now.first now.changes ≡ Some v → replay does next.first next.changes ≡ Some w →
    HasMoved way now next None → AreMarks stops.watched before (world_of now) → AreMarks stops.watched after w → halts ≡ is_halt_done way v →
    Knows stops.watched way old now → new.waits ≡ old.waits → new.last ≡ old.last → (old.waits ≡ true → LooksOn way now old new told) →
    (next ≡ moved way t (k + 1)) × (end_of_last way stops t (k + 1) ≡ end_by_marks halts told stops before w) × AreMarks stops.watched after (world_of next)
    × (end_by_marks halts told stops before w ≡ None → Knows stops.watched way new next)
one_more law way stops t now next k v w halts told before after old new same here there has marks_before marks_after halted knows waits last looks =
    let led = moved-next way t now next k same has.0 in
    let state = world_of-is (moved way t k) now v same here in
    let next_state = world_of-is (moved way t (k + 1)) next w led there in
    let known = one_known stops.watched way now next v old new told knows has.0 has.1 here waits last looks in
    let tells : Tells stops.watched told (move_conflicts way (moved way t k) (moved way t (k + 1))) = rw (← same, ← led) known.0 in
    let marks_here : AreMarks stops.watched before v = rw (world_of-is now now v refl here) at marks_before in (
      led,
      last_by_marks law way stops t k v w halts told before after state next_state (has.2 v w here there) tells marks_here marks_after halted,
      rw (world_of-is next next w refl there) marks_after,
      λ going. known.1 (goes_on stops halts told before w (AreMarks-length stops.watched before v marks_here) going),
    )
