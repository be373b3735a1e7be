-- The timeline of a session: the loaded machine, the changes done since, and those taken back, which stand ahead. The machine is run anew
-- from its first state on the changes done, wherever something of it is asked.
use Rattle.std.specs.Prelude.{ℕ, zero, suc, ◌-◌, ◌&&◌, Bool, true, false, List, [], ◌∷◌, ◌++◌, length, take, drop, nat_lt, unwrap_or, if◌then◌else◌}
use Rattle.undo_core.specs.Prelude.{History, replay}
use Rattle.mix_machine.specs.Prelude.{WorldState, has_break, does}
use Rattle.mix_machine.specs.declared.old.Change.{Change}
use Rattle.mix_machine.specs.declared.old.Change.TheVariants.{Step}
use Rattle.mix_session.specs.declared.command.stops.Way.{Way}
use Rattle.mix_session.specs.declared.command.stops.Way.TheVariants as way

abbrev pub Timeline : Type 0
Timeline = History WorldState Change

-- no change is done, and none stands ahead
abbrev pub beginning : WorldState → Timeline
beginning base = record { first = base; changes = []; ahead = [] }

-- the machine after the changes done (where one of them were a fault: the first state)
unfoldable pub world_of : Timeline → WorldState
world_of t = unwrap_or (replay does t.first t.changes) t.first

-- one change more is done, and nothing stands ahead of it
abbrev pub with_change : Timeline → Change → Timeline
with_change t change = record { first = t.first; changes = t.changes ++ change ∷ []; ahead = [] }

-- the last n changes are taken back, and stand ahead of those that are left
abbrev pub back_by : Timeline → ℕ → Timeline
back_by t n =
    let left = length t.changes - n in
    record { first = t.first; changes = take left t.changes; ahead = drop left t.changes ++ t.ahead }

-- the next n changes ahead are done again
abbrev pub forth_by : Timeline → ℕ → Timeline
forth_by t n = record { first = t.first; changes = t.changes ++ take n t.ahead; ahead = drop n t.ahead }

-- whether the first of some changes is a step
abbrev pub begins_with_step : List Change → Bool
begins_with_step [] = false
begins_with_step (Step ∷ rest) = true
begins_with_step (other ∷ rest) = false

-- one change more of a run: a new step; or the change that stands ahead is done again, where it is a step, and else a new step; or the last change is
-- taken back
abbrev pub moved_once : Way → Timeline → Timeline
moved_once way.New t = with_change t Step
moved_once way.Again t = if begins_with_step t.ahead then forth_by t 1 else with_change t Step
moved_once way.Back t = back_by t 1

-- so many changes of a run, one after the other
abbrev pub moved : Way → Timeline → ℕ → Timeline
moved way t zero = t
moved way t (suc k) = moved_once way (moved way t k)

-- whether the machine is at a breakpoint: the location is a cell that has one
abbrev pub is_at_break : WorldState → Bool
is_at_break w = nat_lt w.loc 4000 && has_break w w.loc
