use Rattle.std.proofs.Common.{◌≡◌, ◌++◌, length, map}
use Rattle.mix_passages.specs.Rows.{row_at}
use Rattle.mix_passages.proofs.rows.add_rows.Given as goal

abbrev pub invariant-loop-rest : goal.invariant-loop-rest
invariant-loop-rest l = record {
  of : l.moments.of ≡ l.session.timeline;
  rows : l.rows.items ++ map (row_at l.session.timeline l.asked) l.rest ≡ l.fn.rows.items ++ map (row_at l.session.timeline l.asked) l.states;
}

abbrev pub decreases-loop-rest : goal.decreases-loop-rest
decreases-loop-rest l = length l.rest
