use Rattle.std.proofs.Common.{◌≡◌, ◌+◌, ◌-◌, ◌≤◌, reverse}
use Rattle.undo_core.specs.Counts.{run_of}
use Rattle.undo_core.proofs.values.Backwards.run.Given as goal

abbrev pub invariant-loop-left : goal.invariant-loop-left
invariant-loop-left g l = record {
  within : l.left ≤ l.most;
  run : run_of g.O.Pack.is_last l.most (reverse l.self) ≡ run_of g.O.Pack.is_last l.left (reverse l.front) + (l.most - l.left);
}

abbrev pub decreases-loop-left : goal.decreases-loop-left
decreases-loop-left g l = l.left
