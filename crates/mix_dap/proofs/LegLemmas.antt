-- The legs of a run: one more, and how much is left for it.
use Rattle.std.proofs.Common.{◌≡◌, ℕ, zero, suc, ◌-◌, ◌<◌, ◌==◌, Bool, true, false, Option, None, Some, Result, Ok, Err, refl, ap, sym, subst, ◌∙◌, arith, length, if◌then◌else◌, unwrap_or}
use Rattle.mix_machine.specs.Prelude.{WorldState, does}
use Rattle.mix_machine.specs.declared.fault.MixFault.{MixFault}
use Rattle.mix_machine.specs.declared.old.Change.TheVariants.{Step}
use Rattle.mix_session.specs.Prelude.{effect_of_run, count_of_run, end_at, end_of_more, fault_end, StopsState, Timeline, world_of, moved}
use Rattle.mix_session.specs.declared.answer.Answer.TheVariants.{Ran}
use Rattle.mix_session.specs.declared.reply.End.{End}
use Rattle.mix_session.specs.declared.command.stops.Way as session
use Rattle.mix_session.specs.declared.command.stops.Way.TheVariants as ways
use Rattle.mix_session.specs.declared.reply.End.TheVariants as ends
use Rattle.dap_points.specs.Points.{PointsState, stops_of}
use Rattle.mix_dap.specs.Runs.{Leg, Passes, awaited_by, effect_of_leg, goes_past, made_in, next_leg, passes_by, points_counted, timeline_after}
use Rattle.mix_dap.specs.Stopped.{end_of}
use Rattle.mix_dap.specs.declared.adapter.Way.{Way}
use Rattle.mix_dap.specs.declared.adapter.Way.TheVariants as way

-- ---- one leg more

went : (way : Way) (end : End) (points : PointsState) (t : Timeline) (location : Option ℕ) (w : WorldState) (goes : Bool) → location ≡ awaited_by way → w ≡ world_of t
    → goes ≡ passes_by end points location w → goes ≡ passes_by end points (awaited_by way) (world_of t)
went way end points t location w goes awaited there is =
    is ∙ ap (λ l. passes_by end points l w) awaited ∙ ap (λ v. passes_by end points (awaited_by way) v) there

passes-more : (way : Way) (count : ℕ) (from leg : Leg) → Passes way count from leg → goes_past way leg ≡ true → Passes way (suc count) from (next_leg way leg)
passes-more way zero from leg is goes = (ap (goes_past way) (sym is) ∙ goes, ap (next_leg way) is)
passes-more way (suc count) from leg is goes = (is.0, passes-more way count (next_leg way from) leg is.1 goes)

-- whether a run goes on past where a leg has come to, by its end and what it leaves
past-by : (way : Way) (leg : Leg) (made : ℕ) (end : End) (points : PointsState) (t : Timeline) (goes : Bool) → (effect_of_leg way leg).answer ≡ Ran made end
    → t ≡ timeline_after way leg → points ≡ points_counted way leg → goes ≡ passes_by end points (awaited_by way) (world_of t) → goes ≡ goes_past way leg
past-by way leg made end points t goes answer there counted is =
    is ∙ ap (λ u. passes_by end points (awaited_by way) (world_of u)) there
    ∙ ap (λ p. passes_by end p (awaited_by way) (world_of (timeline_after way leg))) counted
    ∙ ap (λ e. passes_by e (points_counted way leg) (awaited_by way) (world_of (timeline_after way leg))) (sym (ap end_of answer))

abbrev leg_at : PointsState → Timeline → ℕ → Leg
leg_at points t left = record { points = points; timeline = t; left = left }

next-by : (way : Way) (leg : Leg) (made : ℕ) (end : End) (points : PointsState) (t : Timeline) (left : ℕ) → (effect_of_leg way leg).answer ≡ Ran made end
    → t ≡ timeline_after way leg → points ≡ points_counted way leg → left ≡ leg.left - made
    → next_leg way leg ≡ leg_at points t left
next-by way leg made end points t left answer there counted is =
    ap (λ p. leg_at p (timeline_after way leg) (leg.left - made_in (effect_of_leg way leg).answer)) (sym counted)
    ∙ ap (λ u. leg_at points u (leg.left - made_in (effect_of_leg way leg).answer)) (sym there)
    ∙ ap (λ n. leg_at points t n) (ap (λ a. leg.left - made_in a) answer ∙ sym is)

pub leg_more : (way : Way) (from leg : Leg) (made : ℕ) (end : End) (points : PointsState) (t : Timeline) (left : ℕ) (location : Option ℕ) (w : WorldState) (goes : Bool)
    → (count : ℕ) × Passes way count from leg → (effect_of_leg way leg).answer ≡ Ran made end → t ≡ timeline_after way leg → points ≡ points_counted way leg
    → location ≡ awaited_by way → w ≡ world_of t → goes ≡ passes_by end points location w → goes ≡ true → left ≡ leg.left - made
    → (count : ℕ) × Passes way count from (leg_at points t left)
leg_more way from leg made end points t left location w goes passed answer there counted awaited world is true_is left_is =
    let by = past-by way leg made end points t goes answer there counted (went way end points t location w goes awaited world is) in (
      suc passed.0,
      subst (λ next. Passes way (suc passed.0) from next) (next-by way leg made end points t left answer there counted left_is)
          (passes-more way passed.0 from leg passed.1 (sym by ∙ true_is)),
    )

-- ---- how much is left: no run ends at a breakpoint before its first change

fault-none : (r : Result WorldState MixFault) → ends.Break ≡ unwrap_or (fault_end r) ends.Limit → ⊥
fault-none (Ok world) is = cc
fault-none (Err fault) is = cc

start-none : (b : Bool) → ends.Break ≡ unwrap_or (if b then Some ends.Start else None) ends.Limit → ⊥
start-none true is = cc
start-none false is = cc

more-none : (w : session.Way) (t : Timeline) → ends.Break ≡ unwrap_or (end_of_more w t) ends.Limit → ⊥
more-none ways.New t is = fault-none (does (world_of t) Step) is
more-none ways.Again t is = fault-none (does (world_of t) Step) is
more-none ways.Back t is = start-none (length t.changes == 0) is

none-by : (b : Bool) (w : session.Way) (t : Timeline) → ends.Break ≡ unwrap_or (if b then Some ends.Limit else end_of_more w t) ends.Limit → ⊥
none-by true w t is = cc
none-by false w t is = more-none w t is

zero-none : (w : session.Way) (stops : StopsState) (t : Timeline) (n : ℕ) → ends.Break ≡ unwrap_or (end_at w stops t n 0) ends.Limit → ⊥
unfolding end_at
zero-none w stops t n is = none-by (0 == n) w (moved w t 0) is

first-none : (w : session.Way) (stops : StopsState) (t : Timeline) (n k : ℕ) → k ≡ 0 → ends.Break ≡ unwrap_or (end_at w stops t n k) ends.Limit → ⊥
first-none w stops t n k none is = zero-none w stops t n (subst (λ k. ends.Break ≡ unwrap_or (end_at w stops t n k) ends.Limit) none is)

run-shorter : (w : session.Way) (stops : StopsState) (t : Timeline) (n made : ℕ) → (effect_of_run w stops t n).answer ≡ Ran made ends.Break → n - made < n
unfolding effect_of_run count_of_run
run-shorter w stops t zero made is = absurd (zero-none w stops t zero (sym (ap end_of is)))
run-shorter w stops t (suc n) zero is = absurd (first-none w stops t (suc n) (count_of_run w stops t (suc n)) (ap made_in is) (sym (ap end_of is)))
run-shorter w stops t (suc n) (suc made) is = omega arith

leg-shorter : (way : Way) (leg : Leg) (made : ℕ) → (effect_of_leg way leg).answer ≡ Ran made ends.Break → leg.left - made < leg.left
leg-shorter (way.Forth location) leg made is = run-shorter ways.Again (stops_of leg.points location) leg.timeline leg.left made is
leg-shorter (way.Over steps) leg made is = run-shorter ways.Again (stops_of leg.points None) leg.timeline leg.left made is
leg-shorter way.Back leg made is = run-shorter ways.Back (stops_of leg.points None) leg.timeline leg.left made is

only-breaks : (end : End) (points : PointsState) (location : Option ℕ) (w : WorldState) → passes_by end points location w ≡ true → end ≡ ends.Break
only-breaks ends.Halt points location w is = cc
only-breaks (ends.Until index) points location w is = cc
only-breaks ends.Break points location w is = refl
only-breaks ends.Arrived points location w is = cc
only-breaks ends.Limit points location w is = cc
only-breaks ends.Start points location w is = cc
only-breaks (ends.Fault fault) points location w is = cc

pub leg_shorter : (way : Way) (leg : Leg) (made : ℕ) (end : End) (points : PointsState) (left : ℕ) (location : Option ℕ) (w : WorldState) (goes : Bool)
    → (effect_of_leg way leg).answer ≡ Ran made end → goes ≡ passes_by end points location w → goes ≡ true → left ≡ leg.left - made → left < leg.left
leg_shorter way leg made end points left location w goes answer is true_is left_is =
    let breaks = only-breaks end points location w (sym is ∙ true_is) in
    subst (λ n. n < leg.left) (sym left_is) (leg-shorter way leg made (answer ∙ ap (λ e. Ran made e) breaks))
