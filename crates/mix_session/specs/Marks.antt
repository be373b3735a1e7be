-- A run, change by change: what one change more does, and why the run then ends, by the marks before and after it.
use Rattle.std.specs.Prelude.{◌≡◌, ◌+◌, ℕ, Bool, List, [], ◌∷◌, Option, Some, None, Ok, if◌then◌else◌}
use Rattle.std.specs.Option.{option_map, option_or}
use Rattle.undo_core.specs.Replay.{replay}
use Rattle.mix_machine.specs.Prelude.{WorldState, IsWorld, does, IsPart, mark_of}
use Rattle.mix_machine.specs.declared.old.Change.{Change}
use Rattle.mix_machine.specs.declared.old.Change.TheVariants.{Step}
use Rattle.mix_machine.specs.declared.part.Mark.{Mark}
use Rattle.mix_session.specs.Command.{end_there, end_of_more}
use Rattle.mix_session.specs.Timeline.{Timeline, moved_once}
use Rattle.mix_session.specs.Condition.{watched, is_met}
use Rattle.mix_session.specs.Stops.{StopsState}
use Rattle.mix_session.specs.declared.command.stops.Way.{Way}
use Rattle.mix_session.specs.declared.command.stops.Way.TheVariants as way
use Rattle.mix_session.specs.declared.condition.Condition.{Condition}
use Rattle.mix_session.specs.declared.reply.End.{End}
use Rattle.mix_session.specs.declared.reply.End.TheVariants.{Halt, Until}

-- one change leads from a state to another, forwards by a step, or backwards
abbrev pub IsMove : Way → WorldState → WorldState → Type 0
IsMove way.Back old now = (change : Change) × (does now change ≡ Ok old)
IsMove other old now = does old Step ≡ Ok now

-- what one change more of a run does: it is made; or it cannot be, and why
abbrev pub HasMoved : Way → Timeline → Timeline → Option End → Type 0
HasMoved way old new None =
    (new ≡ moved_once way old) × (end_of_more way old ≡ None)
    × ((v w : WorldState) → replay does old.first old.changes ≡ Some v → replay does new.first new.changes ≡ Some w → IsMove way v w)
HasMoved way old new (Some end) = (new ≡ old) × (end_of_more way old ≡ Some end)

-- a mark of a state for each condition, of a part of the machine
abbrev pub AreMarks : List Condition → List Mark → WorldState → Type 0
AreMarks [] [] w = Unit {0}
AreMarks [] (mark ∷ marks) w = ⊥
AreMarks (condition ∷ conditions) [] w = ⊥
AreMarks (condition ∷ conditions) (mark ∷ marks) w =
    (mark ≡ mark_of w (watched condition)) × IsPart (watched condition) × IsWorld w × AreMarks conditions marks w

-- whether a condition is met, by the mark before
abbrev pub is_met_from : Bool → Mark → WorldState → Condition → Bool
is_met_from conflicts mark now condition = is_met condition conflicts mark (mark_of now (watched condition)) (mark_of now (watched condition))

-- the first condition that is met, by the marks before; they are counted from a number
abbrev pub first_met : Bool → ℕ → List Condition → List Mark → WorldState → Option ℕ
first_met conflicts i [] marks now = None
first_met conflicts i (condition ∷ conditions) [] now = None
first_met conflicts i (condition ∷ conditions) (mark ∷ marks) now =
    if is_met_from conflicts mark now condition then Some i else first_met conflicts (i + 1) conditions marks now

-- why a run ends after a change, by the marks before it
abbrev pub end_by_marks : Bool → Bool → StopsState → List Mark → WorldState → Option End
end_by_marks halts conflicts stops marks now =
    if halts then Some Halt else option_or (option_map Until (first_met conflicts 0 stops.watched marks now)) (end_there stops now)
