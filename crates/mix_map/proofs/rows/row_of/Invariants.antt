use Rattle.std.proofs.Common.{◌≡◌, ◌≤◌, ◌*◌, ◌^◌}
use Rattle.mix_map.specs.Map.{counted, times_in}
use Rattle.mix_map.proofs.rows.row_of.Given as goal

-- the times of the columns so far
abbrev pub invariant-loop-column : goal.invariant-loop-column
invariant-loop-column l = record {
  small : l.times ≤ l.column * 2 ^ 64;
  times : l.times ≡ times_in (counted l.columns l.counts) l.place l.column;
}
