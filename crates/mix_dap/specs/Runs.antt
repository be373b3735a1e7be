-- Runs of a client: what stops them, and what one leaves. Where a run comes to breakpoints that don't stop it, it goes on past them, in a leg
-- of its own.
use Rattle.std.specs.Prelude.{◌≡◌, ◌-◌, ◌==◌, ◌&&◌, ℕ, zero, suc, List, length, Bool, true, false, Option, None, Some, if◌then◌else◌}
use Rattle.mix_machine.specs.declared.fault.MixFault.{MixFault}
use Rattle.mix_machine.specs.declared.transfers.Conflict.{Conflict}
use Rattle.mix_machine.specs.World.{WorldState}
use Rattle.mix_session.specs.Prelude.{conflict_after, Effect, after, effect_of_run, Begun, Timeline, world_of}
use Rattle.mix_session.specs.declared.answer.Answer.{Answer}
use Rattle.mix_session.specs.declared.reply.End.{End}
use Rattle.mix_session.specs.declared.answer.Answer.TheVariants as answers
use Rattle.mix_session.specs.declared.command.stops.Way.TheVariants as session
use Rattle.mix_session.specs.declared.reply.End.TheVariants as ends
use Rattle.dap_points.specs.Points.{PointsState, is_filter, passes, reason_at, stops_of, with_arrivals}
use Rattle.mix_dap.specs.Stopped.{Why, end_of, fault_at, long_enough, out_of_memory, why_with}
use Rattle.mix_dap.specs.declared.adapter.Way.{Way}
use Rattle.mix_dap.specs.declared.adapter.Way.TheVariants as way

-- the location that a run waits for
abbrev pub awaited_by : Way → Option ℕ
awaited_by (way.Forth location) = location
awaited_by (way.Over steps) = None
awaited_by way.Back = None

-- ---- a leg of a run: with these breakpoints, from here, and at most so many changes

pub record Leg : Type 0 where
  pub points : PointsState
  pub timeline : Timeline
  pub left : ℕ

-- steps, those that stand ahead done again; or changes taken back
abbrev pub effect_of_leg : Way → Leg → Effect
effect_of_leg (way.Forth location) leg = effect_of_run session.Again (stops_of leg.points location) leg.timeline leg.left
effect_of_leg (way.Over steps) leg = effect_of_run session.Again (stops_of leg.points None) leg.timeline leg.left
effect_of_leg way.Back leg = effect_of_run session.Back (stops_of leg.points None) leg.timeline leg.left

-- how it has ended, and where
abbrev pub end_of_leg : Way → Leg → End
end_of_leg way leg = end_of (effect_of_leg way leg).answer

abbrev pub timeline_after : Way → Leg → Timeline
timeline_after way leg = after (effect_of_leg way leg)

-- the breakpoints after it: if its last change has come to a cell of some, that is counted, whatever else that change has met
abbrev pub counted_by : End → WorldState → PointsState → PointsState
counted_by ends.Halt w points = with_arrivals w points
counted_by (ends.Until index) w points = with_arrivals w points
counted_by ends.Break w points = with_arrivals w points
counted_by other w points = points

abbrev pub points_counted : Way → Leg → PointsState
points_counted way leg = counted_by (end_of_leg way leg) (world_of (timeline_after way leg)) leg.points

-- whether the run goes on past the breakpoints to which a leg has come; what has ended it otherwise, is no breakpoint
abbrev pub passes_by : End → PointsState → Option ℕ → WorldState → Bool
passes_by ends.Break points location w = passes points location w
passes_by other points location w = false

abbrev pub goes_past : Way → Leg → Bool
goes_past way leg = passes_by (end_of_leg way leg) (points_counted way leg) (awaited_by way) (world_of (timeline_after way leg))

-- the leg after it has as many changes as are left then
abbrev pub made_in : Answer → ℕ
made_in (answers.Ran count end) = count
made_in other = 0

abbrev pub next_leg : Way → Leg → Leg
next_leg way leg =
    record { points = points_counted way leg; timeline = timeline_after way leg; left = leg.left - made_in (effect_of_leg way leg).answer }

-- so many legs, one after the other, of which each has come to breakpoints that the run goes on past
abbrev pub Passes : Way → ℕ → Leg → Leg → Type 0
Passes way zero from leg = leg ≡ from
Passes way (suc count) from leg = (goes_past way from ≡ true) × Passes way count (next_leg way from) leg

-- ---- a whole run: at most so many changes, of all its legs

abbrev pub most : ℕ
most = 1000000

-- a step over has its number of steps
abbrev pub most_of : Way → ℕ
most_of (way.Forth location) = most
most_of (way.Over steps) = steps
most_of way.Back = most

abbrev pub first_leg : Way → PointsState → Timeline → Leg
first_leg way points t = record { points = points; timeline = t; left = most_of way }

-- It is done, and has ended so: its last leg has, after those that went on.
pub record RunDone (way : Way) (points : PointsState) (t : Timeline) (end : End) (now : PointsState) (new : Timeline) : Type 0 where
  pub count : ℕ
  pub leg : Leg
  pub passed : Passes way count (first_leg way points t) leg
  pub last : goes_past way leg ≡ false
  pub ended : end ≡ end_of_leg way leg
  pub counted : now ≡ points_counted way leg
  pub done : new ≡ timeline_after way leg

-- Memory was refused for a leg of it, of which a stage stands.
pub record RunBroken (way : Way) (points : PointsState) (t : Timeline) (now : PointsState) (new : Timeline) : Type 0 where
  pub count : ℕ
  pub leg : Leg
  pub passed : Passes way count (first_leg way points t) leg
  pub counted : now ≡ leg.points
  pub begun : Begun (effect_of_leg way leg) new

-- the one or the other: how it has ended, or none for want of memory
abbrev pub Ran : Way → PointsState → Timeline → Option End → PointsState → Timeline → Type 0
Ran way points t (Some end) now new = RunDone way points t end now new
Ran way points t None now new = RunBroken way points t now new

-- ---- why it stops

-- whether it has ended only by its number of changes
abbrev pub is_limit : End → Bool
is_limit ends.Limit = true
is_limit other = false

-- the word of a breakpoint that stops a run there
abbrev pub word_at : PointsState → Timeline → List ℕ
word_at points t = reason_at points (world_of t)

-- what it has met is one of the kinds of exceptions
abbrev pub meets_filter : PointsState → End → Bool
meets_filter points (ends.Until index) = is_filter points index
meets_filter points other = false

-- how many changes are before the one that it has ended with: that is the last one done, or the one that was taken back, which stands ahead
abbrev pub before_last : Way → Timeline → ℕ
before_last (way.Forth location) t = length t.changes - 1
before_last (way.Over steps) t = length t.changes - 1
before_last way.Back t = length t.changes

-- the conflict at which it has ended, if it ended at one
abbrev pub conflict_met : Way → PointsState → Timeline → End → Option Conflict
conflict_met way points t end = if meets_filter points end then conflict_after t (before_last way t) else None

-- whether it was long enough: a step over that was shorter has come back
abbrev pub is_paused : Way → End → Bool
is_paused way end = is_limit end && most_of way == most

-- at a stop, or since it was long enough
abbrev pub why_of_run : Way → PointsState → Timeline → End → Why
why_of_run way points t end = if is_paused way end then long_enough else why_with (conflict_met way points t end) (word_at points t) end

abbrev pub why_ran : Way → PointsState → Timeline → Option End → Why
why_ran way points t (Some end) = why_of_run way points t end
why_ran way points t None = out_of_memory

-- the fault that is known then, if one has ended it
abbrev pub fault_ran : Option End → Option MixFault
fault_ran (Some end) = fault_at end
fault_ran None = None
