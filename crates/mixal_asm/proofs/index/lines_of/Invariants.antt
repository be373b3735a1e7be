use Rattle.std.proofs.Common.{map, take}
use Rattle.mixal_asm.specs.Prelude.{row_value, HasDefinitions}
use Rattle.mixal_asm.proofs.index.lines_of.Given as goal

abbrev pub invariant-loop-row : goal.invariant-loop-row
invariant-loop-row l = HasDefinitions (take l.row-index (map row_value l.rows)) l.lines.entries
