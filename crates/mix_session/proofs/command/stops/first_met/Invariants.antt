use Rattle.std.proofs.Common.{◌≡◌, ◌≤◌, ℕ, take, get_or}
use Rattle.mix_machine.specs.declared.part.Mark.{Mark}
use Rattle.mix_session.specs.Marks.{AreMarks, first_met}
use Rattle.mix_session.proofs.command.stops.first_met.Given as goal

abbrev pub invariant-loop-index : goal.invariant-loop-index
invariant-loop-index l = record {
  found : l.found ≡ first_met l.conflicts 0 (take l.index l.watched) l.fn.marks l.world;
  seen : AreMarks (take l.index l.watched) (take l.index l.marks) l.world;
  rest : (k : ℕ) (m : Mark) → l.index ≤ k → get_or l.marks k m ≡ get_or l.fn.marks k m;
}
