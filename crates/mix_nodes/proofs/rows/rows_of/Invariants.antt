use Rattle.std.proofs.Common.{◌≡◌, ◌<◌, ◌≤◌, ◌+◌, ◌-◌, ℕ, length}
use Rattle.mix_nodes.specs.Nodes.{is_root, leads}
use Rattle.mix_nodes.specs.Rows.{row_below, row_in}
use Rattle.mix_nodes.proofs.rows.rows_of.Given as goal

-- the rows so far
abbrev pub invariant-loop-row : goal.invariant-loop-row
invariant-loop-row l = record {
  within : l.row ≤ l.count - 1;
  len : length l.rows.items ≡ l.count;
  rows : (b : ℕ) → b < l.count → row_in l.rows.items b ≡ row_below (is_root l.world l.shape) (leads l.world l.shape) l.count (l.row + 1) b;
}

abbrev pub decreases-loop-row : goal.decreases-loop-row
decreases-loop-row l = l.count - l.row
