use Rattle.std.proofs.Common.{◌≡◌, ◌≤◌, ◌-◌}
use Rattle.mix_session.specs.Prelude.{tally_in}
use Rattle.mix_run.specs.Executed.{executed}
use Rattle.mix_run.proofs.print.end_table.executed.Given as goal

abbrev pub invariant-loop-location : goal.invariant-loop-location
invariant-loop-location l = record {
  within : l.location ≤ l.count;
  rows : l.rows.items ≡ executed (tally_in l.tallies) l.location;
}

abbrev pub decreases-loop-location : goal.decreases-loop-location
decreases-loop-location l = l.count - l.location
