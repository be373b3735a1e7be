use Rattle.std.proofs.Common.{◌≡◌, ◌≤◌, ◌-◌, ◌++◌}
use Rattle.mix_passages.specs.Reading.{cell_columns}
use Rattle.mix_passages.proofs.columns.add_cells.Given as goal

abbrev pub invariant-loop-added : goal.invariant-loop-added
invariant-loop-added l = record {
  within : l.added ≤ l.count;
  added : l.columns.items ≡ l.fn.columns.items ++ cell_columns l.first l.added;
}

abbrev pub decreases-loop-added : goal.decreases-loop-added
decreases-loop-added l = l.count - l.added
