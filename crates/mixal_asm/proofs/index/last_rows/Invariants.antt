use Rattle.std.proofs.Common.{◌≡◌, length, map, take}
use Rattle.mixal_asm.specs.Prelude.{row_value, source_in, LeadsToLast}
use Rattle.mixal_asm.proofs.index.last_rows.Given as goal

abbrev pub invariant-loop-i : goal.invariant-loop-i
invariant-loop-i l = record {
  count : length l.numbers.items ≡ l.places;
  last : LeadsToLast (source_in l.words) (λ row. row.source) (map row_value l.rows) (take l.i (map row_value l.rows)) l.numbers.items;
}
