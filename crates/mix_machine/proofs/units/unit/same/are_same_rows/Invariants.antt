use Rattle.std.proofs.Common.{◌≡◌, drop}
use Rattle.std.specs.Cmp.Lexicographic.{pointwise}
use Rattle.mix_machine.specs.Part.{is_same_row}
use Rattle.mix_machine.proofs.units.unit.same.are_same_rows.Given as goal

abbrev pub invariant-loop-row : goal.invariant-loop-row
invariant-loop-row l = record {
  rest : pointwise is_same_row (drop l.row-index l.rows) l.rest ≡ pointwise is_same_row l.rows l.others;
}
