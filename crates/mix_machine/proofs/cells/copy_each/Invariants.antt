use Rattle.std.proofs.Common.{◌≡◌, length}
use Rattle.mix_machine.specs.Cells.{with_copies}
use Rattle.mix_machine.proofs.cells.copy_each.Given as goal

abbrev pub invariant-loop-i : goal.invariant-loop-i
invariant-loop-i l = record {
  len : length l.cells ≡ length l.initial.cells;
  copied : l.cells ≡ with_copies l.i l.from l.to l.initial.cells;
}
