-- What a command waits for, and when it is met.
use Rattle.std.specs.Prelude.{◌==◌, Bool, true, false, not}
use Rattle.mix_machine.specs.Prelude.{WorldState, is_altered, is_same_mark}
use Rattle.mix_machine.specs.declared.part.Part.{Part}
use Rattle.mix_machine.specs.declared.part.Part.TheVariants.{Loc, Clock}
use Rattle.mix_machine.specs.declared.part.Mark.{Mark}
use Rattle.mix_machine.specs.declared.part.Mark.TheVariants.{Location}
use Rattle.mix_session.specs.declared.condition.Condition.{Condition}
use Rattle.mix_session.specs.declared.condition.Condition.TheVariants.{Alters, At, Conflicts}

-- Whether a change from one state to another meets a condition, done or taken back, which leads the machine to `now`: the change alters the part,
-- in all that it holds; or the location is that cell; or the change conflicts with a transfer under way before it.
abbrev pub is_reached : Condition → Bool → WorldState → WorldState → WorldState → Bool
is_reached (Alters part) conflicts before after now = is_altered part before after
is_reached (At place) conflicts before after now = now.loc == place
is_reached Conflicts conflicts before after now = conflicts

-- the part by whose marks that is seen; of a conflict any part
abbrev pub watched : Condition → Part
watched (Alters part) = part
watched (At place) = Loc
watched Conflicts = Clock

-- whether the condition is met, by the marks of that part
abbrev pub is_met : Condition → Bool → Mark → Mark → Mark → Bool
is_met (Alters part) conflicts before after now = not (is_same_mark before after)
is_met (At place) conflicts before after now = is_same_mark now (Location place)
is_met Conflicts conflicts before after now = conflicts

-- whether it is a conflict
abbrev pub is_conflict : Condition → Bool
is_conflict (Alters part) = false
is_conflict (At place) = false
is_conflict Conflicts = true
