use Rattle.std.proofs.Common.{◌≡◌, map}
use Rattle.mix_map.specs.Map.{counted, row_seen, rows_below}
use Rattle.mix_map.proofs.rows.executed.Given as goal

-- the rows of the places so far
abbrev pub invariant-loop-place : goal.invariant-loop-place
invariant-loop-place l = map row_seen l.rows.items ≡ rows_below (counted l.columns l.counts) l.columns l.place
