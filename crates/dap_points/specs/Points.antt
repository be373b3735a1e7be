-- Breakpoints of a client: where runs stop and what is watched, and the kinds of exceptions that stop a run.
use Rattle.std.specs.Prelude.{ℕ, ◌||◌, not, List, [], ◌++◌, codes, length, map, Bool, false, Option, nat_le, if◌then◌else◌}
use Rattle.std.specs.List.{list_any}
use Rattle.mix_machine.specs.World.{WorldState}
use Rattle.mix_session.specs.Prelude.{StopsState, is_awaited}
use Rattle.mix_session.specs.declared.condition.Condition.{Condition}
use Rattle.dap_points.specs.Breakpoint.{stops, with_arrival}
use Rattle.dap_points.specs.declared.points.breakpoint.Breakpoint.{Breakpoint}
use Rattle.dap_asked.specs.declared.kind.Target.{Target}
use Rattle.dap_asked.specs.declared.kind.Target.TheVariants as target

-- the breakpoints of lines, and those of instructions, what is watched, and the kinds of exceptions that stop a run
pub record PointsState : Type 0 where
  pub lines : List Breakpoint
  pub instructions : List Breakpoint
  pub watched : List Condition
  pub filters : List Condition

abbrev pub no_points : PointsState
no_points = record { lines = []; instructions = []; watched = []; filters = [] }

-- the cells of breakpoints
abbrev pub cells_of : List Breakpoint → List ℕ
cells_of breakpoints = map (λ b. b.cell) breakpoints

abbrev pub stop_cells : PointsState → List ℕ
stop_cells points = cells_of (points.lines ++ points.instructions)

-- what ends a run with the change that meets it: what is watched first
abbrev pub conditions_of : PointsState → List Condition
conditions_of points = points.watched ++ points.filters

-- whether one of these, by its number, is a kind of exceptions
abbrev pub is_filter : PointsState → ℕ → Bool
is_filter points index = nat_le (length points.watched) index

-- ---- runs that come to their cells

-- a run that comes to a cell is counted as an arrival at each of its breakpoints, where it is one
abbrev pub with_arrivals : WorldState → PointsState → PointsState
with_arrivals w points = record points { lines = map (with_arrival w) points.lines; instructions = map (with_arrival w) points.instructions }

-- whether one of some breakpoints stops a run
abbrev pub stop_any : WorldState → List Breakpoint → Bool
stop_any w breakpoints = list_any (stops w) breakpoints

-- whether a run goes on past a cell of breakpoints: none of them stops it, and its location is not the one that is waited for
abbrev pub passes : PointsState → Option ℕ → WorldState → Bool
passes points location w = not (stop_any w points.lines || stop_any w points.instructions || is_awaited location w)

-- why a run stops at a cell of breakpoints: for one of an instruction only if none of a line stops it; if none does, the location was waited for
abbrev pub reason_at : PointsState → WorldState → List ℕ
reason_at points w =
    if stop_any w points.lines then codes "breakpoint" else if stop_any w points.instructions then codes "instruction breakpoint" else codes "step"

-- ---- what a request for some leaves: those of its kind, which it sets, and all others as they were

abbrev pub with_kind : Target → PointsState → PointsState → PointsState
with_kind target.Lines new points = record points { lines = new.lines }
with_kind target.Instructions new points = record points { instructions = new.instructions }
with_kind target.Data new points = record points { watched = new.watched }
with_kind target.Exceptions new points = record points { filters = new.filters }
with_kind target.Nothing new points = points

-- what stops a run of the client: its breakpoints, its kinds of exceptions, and a location that is waited for; the breakpoints of the machine don't
abbrev pub stops_of : PointsState → Option ℕ → StopsState
stops_of points location =
    record { breaks = false; cells = stop_cells points; watched = conditions_of points; location = location }
