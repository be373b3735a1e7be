use Rattle.std.proofs.Common.{◌≡◌, take}
use Rattle.mix_machine.proofs.units.unit.rows_copied.Given as goal

abbrev pub invariant-loop-row : goal.invariant-loop-row
invariant-loop-row l = record {
  items : l.list.items ≡ take l.row-index l.rows;
}
