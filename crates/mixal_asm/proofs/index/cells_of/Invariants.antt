use Rattle.std.proofs.Common.{map, take}
use Rattle.std.specs.List.Sorted.{IsNonDecreasingBy}
use Rattle.mixal_asm.specs.Prelude.{row_value, IsFirstFrom}
use Rattle.mixal_asm.proofs.index.cells_of.Given as goal

abbrev pub invariant-loop-row : goal.invariant-loop-row
invariant-loop-row l = record {
  rising : IsNonDecreasingBy (λ cell. cell.0) l.cells.items;
  first : IsFirstFrom l.words (take l.row-index (map row_value l.rows)) l.cells.items;
}
