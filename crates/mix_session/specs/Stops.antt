-- What stops a run.
use Rattle.std.specs.Prelude.{◌==◌, ◌&&◌, ◌||◌, ℕ, Bool, true, false, List, [], Option, None, Some}
use Rattle.std.specs.List.{list_any}
use Rattle.mix_machine.specs.World.{WorldState}
use Rattle.mix_session.specs.Timeline.{is_at_break}
use Rattle.mix_session.specs.declared.condition.Condition.{Condition}

-- What stops a run beside a halt, a fault, the start and its number of changes: the breakpoints of the machine, or not; cells of a client; what is
-- watched; and a location that is waited for.
pub record StopsState : Type 0 where
  pub breaks : Bool
  pub cells : List ℕ
  pub watched : List Condition
  pub location : Option ℕ

-- what stops the runs of a script: nothing; breakpoints; breakpoints and some conditions
abbrev pub no_stops : StopsState
no_stops = record { breaks = false; cells = []; watched = []; location = None }

abbrev pub at_breaks : StopsState
at_breaks = record no_stops { breaks = true }

abbrev pub at_breaks_or : List Condition → StopsState
at_breaks_or conditions = record at_breaks { watched = conditions }

-- whether the machine is at a cell where the run stops: one that has a breakpoint, where those stop it, or one of the client's
abbrev pub is_at_stop : StopsState → WorldState → Bool
is_at_stop stops w = stops.breaks && is_at_break w || list_any (λ p. p == w.loc) stops.cells

-- whether the location is the one that is waited for
abbrev pub is_awaited : Option ℕ → WorldState → Bool
is_awaited None w = false
is_awaited (Some location) w = w.loc == location
