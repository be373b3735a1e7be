use Rattle.std.proofs.Common.{◌≡◌, ◌++◌, map, take}
use Rattle.mixal_asm.specs.Prelude.{row_value, rows_text}
use Rattle.mixal_asm.proofs.listing.add_rows.Given as goal

abbrev pub invariant-loop-row : goal.invariant-loop-row
invariant-loop-row l = l.text.items ≡ l.initial.text.items ++ rows_text l.program (map row_value (take l.row-index l.row-items))
