use Rattle.std.proofs.Common.{◌≡◌, ◌<◌, ◌≤◌, ◌+◌, ◌-◌, ℕ, false, length}
use Rattle.std.specs.Option.{option_or}
use Rattle.mix_nodes.specs.Nodes.{is_found}
use Rattle.mix_nodes.specs.Rows.{row_if, row_in}
use Rattle.mix_nodes.proofs.rows.add_row.Given as goal

-- what the links of the nodes so far lead to is put
abbrev pub invariant-loop-node : goal.invariant-loop-node
invariant-loop-node l = record {
  within : l.node ≤ l.count;
  len : length l.rows ≡ length l.fn.rows;
  none : l.found ≡ false → l.rows ≡ l.fn.rows;
  rows : (b : ℕ) → b < length l.fn.rows → row_in l.rows b ≡ option_or (row_in l.fn.rows b) (row_if (is_found l.world l.shape l.fn.rows l.row l.node b) (l.row + 1));
}

abbrev pub decreases-loop-node : goal.decreases-loop-node
decreases-loop-node l = l.count - l.node
