-- What data breakpoints watch: a part of the machine, by the name of a variable or by what stands after `until` in a command.
use Rattle.std.specs.Prelude.{ℕ, List, Option, None, Some, Result, Ok, Err}
use Rattle.mix_machine.specs.declared.part.Part.{Part}
use Rattle.mix_session.specs.Prelude.{condition_at, SessionState}
use Rattle.mix_session.specs.declared.condition.Condition.{Condition}
use Rattle.mix_session.specs.declared.condition.Condition.TheVariants.{Alters, At, Conflicts}
use Rattle.mix_session.specs.declared.fault.Refusal.{Refusal}

-- the part that is waited for; a location and a conflict are none
abbrev pub part_until : Result Condition Refusal → Option Part
part_until (Ok (Alters part)) = Some part
part_until (Ok (At place)) = None
part_until (Ok Conflicts) = None
part_until (Err refusal) = None

-- the part that a text names after `until`
abbrev pub part_named : SessionState → List ℕ → Option Part
part_named s name = part_until (condition_at s name)
