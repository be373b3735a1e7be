-- What stands where memory is refused to a request.
use Rattle.std.specs.Prelude.{◌≡◌, ◌<◌, ◌⊎◌, ℕ, Bool, true, false, length, nat_lt}
use Rattle.std.specs.List.{list_any}
use Rattle.mix_session.specs.Command.{Effect}
use Rattle.mix_session.specs.Condition.{is_conflict}
use Rattle.mix_session.specs.Stops.{StopsState}
use Rattle.mix_session.specs.Timeline.{Timeline}
use Rattle.mix_session.specs.declared.request.Request.{Request}
use Rattle.mix_session.specs.declared.request.Request.TheVariants as ask

-- whether a request asks for memory before anything is done: it waits for a conflict, for which the changes done are gone over first
abbrev pub asks_first : Request → Bool
asks_first (ask.RunUntil n conditions) = list_any is_conflict conditions
asks_first (ask.BackUntil conditions) = list_any is_conflict conditions
asks_first (ask.ForthUntil conditions) = list_any is_conflict conditions
asks_first other = false

-- whether a run of a client does: it watches something
abbrev pub watches : StopsState → Bool
watches stops = nat_lt 0 (length stops.watched)

-- a stage before the last: what is done at once, or refused, has none
abbrev pub IsBefore : Effect → Timeline → Type 0
IsBefore effect t = (k : ℕ) × (k < effect.last) × (t ≡ effect.stage k)

-- What stands where memory is refused: a stage before the last, so that nothing is refused which is done, and nothing runs out of memory that has
-- nothing to do; or all as it was, where memory is asked for first.
abbrev pub BrokenOff : Bool → Effect → Timeline → Timeline → Type 0
BrokenOff false effect old new = IsBefore effect new
BrokenOff true effect old new = (new ≡ old) ⊎ IsBefore effect new
