use Rattle.std.proofs.Common.{◌+◌, ◌-◌, ◌<◌, ◌≤◌, length, take}
use Rattle.undo_core.specs.Runs.{end_of}
use Rattle.undo_core.proofs.runs.run_at.Given as goal

abbrev pub invariant-loop-low : goal.invariant-loop-low
invariant-loop-low g l = record {
  order : l.low ≤ l.high;
  within : l.high ≤ length l.runs;
  before : end_of 0 (take l.low l.runs) ≤ l.number;
  end : l.high < length l.runs → l.number < end_of 0 (take (l.high + 1) l.runs);
}

abbrev pub decreases-loop-low : goal.decreases-loop-low
decreases-loop-low g l = l.high - l.low
