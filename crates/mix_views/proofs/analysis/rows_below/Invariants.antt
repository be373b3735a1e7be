use Rattle.std.proofs.Common.{◌≡◌, ◌≤◌, ◌-◌}
use Rattle.mix_formula.specs.Rows.{all_rows}
use Rattle.mix_session.specs.Tally.{tally_in}
use Rattle.mix_views.specs.Analysis.{rows_below}
use Rattle.mix_views.proofs.analysis.rows_below.Given as goal

abbrev pub invariant-loop-number : goal.invariant-loop-number
invariant-loop-number l = record {
  within : l.number ≤ l.cells;
  rows : all_rows l.rows.items ≡ rows_below l.program (tally_in l.tallies) l.number;
}

abbrev pub decreases-loop-number : goal.decreases-loop-number
decreases-loop-number l = l.cells - l.number
