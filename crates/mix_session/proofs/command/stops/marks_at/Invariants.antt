use Rattle.std.proofs.Common.{◌≡◌, length, take}
use Rattle.mix_session.specs.Marks.{AreMarks}
use Rattle.mix_session.proofs.command.stops.marks_at.Given as goal

abbrev pub invariant-loop-index : goal.invariant-loop-index
invariant-loop-index l = record {
  all : length l.marks ≡ 8;
  seen : AreMarks (take l.index l.watched) (take l.index l.marks) l.world;
}
