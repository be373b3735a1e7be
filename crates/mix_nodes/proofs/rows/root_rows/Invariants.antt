use Rattle.std.proofs.Common.{◌≡◌, ◌<◌, ◌≤◌, ◌-◌, ℕ, length}
use Rattle.mix_nodes.specs.Nodes.{is_root}
use Rattle.mix_nodes.specs.Rows.{row_if, row_in}
use Rattle.mix_nodes.proofs.rows.root_rows.Given as goal

-- the rows of the nodes so far
abbrev pub invariant-loop-node : goal.invariant-loop-node
invariant-loop-node l = record {
  within : l.node ≤ l.count;
  len : length l.rows.items ≡ l.node;
  rows : (b : ℕ) → b < l.node → row_in l.rows.items b ≡ row_if (is_root l.world l.shape b) 0;
}

abbrev pub decreases-loop-node : goal.decreases-loop-node
decreases-loop-node l = l.count - l.node
