use Rattle.std.proofs.Common.{◌≡◌, ◌+◌, length}
use Rattle.mix_machine.specs.Part.{mark_before}
use Rattle.mix_machine.proofs.part.mark_before.Given as goal

abbrev pub invariant-loop : goal.invariant-loop
invariant-loop l = record {
  many : length l.left + l.counter ≡ l.end;
  before : mark_before l.left l.part l.before ≡ mark_before l.kept l.part l.fn.mark;
}
