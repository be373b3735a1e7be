use Rattle.std.proofs.Common.{◌≡◌, ◌≤◌, ◌<◌, ◌-◌, ◌==◌, ℕ, false, if◌then◌else◌}
use Rattle.std.specs.Prelude.{nat_lt}
use Rattle.mix_map.specs.Map.{boxes_at, counted, one_if}
use Rattle.mix_map.proofs.boxes.add_row.Given as goal

-- the columns from the last end on are alike, and those before it are in the boxes
abbrev pub invariant-loop-column : goal.invariant-loop-column
invariant-loop-column l = record {
  within : l.column ≤ l.columns;
  from : l.from ≤ l.column;
  alike : (c : ℕ) → l.from ≤ c → c ≤ l.column → one_if (counted l.columns l.counts c l.place) ≡ one_if (counted l.columns l.counts l.column l.place);
  own : (c : ℕ) → c < l.columns → boxes_at l.number c l.boxes.items ≡ (if nat_lt c l.from then one_if (counted l.columns l.counts c l.place) else 0);
  others : (r c : ℕ) → (l.number == r) ≡ false → boxes_at r c l.boxes.items ≡ boxes_at r c l.fn.boxes.items;
}

abbrev pub decreases-loop-column : goal.decreases-loop-column
decreases-loop-column l = l.columns - l.column
