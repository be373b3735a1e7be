use Rattle.std.proofs.Common.{take}
use Rattle.mix_session.specs.Marks.{AreMarks}
use Rattle.mix_session.proofs.command.stops.marks_of.Given as goal

abbrev pub invariant-loop-condition : goal.invariant-loop-condition
invariant-loop-condition l = AreMarks (take l.condition-index l.watched) l.marks.items l.world
