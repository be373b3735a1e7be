use Rattle.std.proofs.Common.{◌≡◌, ◌≤◌, ◌<◌, ℕ, Some}
use Rattle.std.specs.List.{slice_get}
use Rattle.mix_map.specs.Map.{boxes_at, counted, one_if}
use Rattle.mix_map.specs.declared.parts.MapRow.{MapRow}
use Rattle.mix_map.proofs.boxes.add_boxes.Given as goal

-- the boxes of the rows so far; no other row has one
abbrev pub invariant-loop-number : goal.invariant-loop-number
invariant-loop-number l = record {
  drawn : (r c : ℕ) (row : MapRow) → slice_get l.rows r ≡ Some row → r < l.number → c < l.columns
      → boxes_at r c l.boxes.items ≡ one_if (counted l.columns l.counts c row.place);
  rest : (r c : ℕ) → l.number ≤ r → boxes_at r c l.boxes.items ≡ 0;
}
