-- A value in which changes do not end makes the run longer, and another one ends it.
use Rattle.std.proofs.Common.{arith}
use Rattle.undo_core.proofs.Ending.{run-on}
use Rattle.undo_core.proofs.values.Backwards.run.Goals as goal

pub loop-left-preserved : goal.loop-left-preserved
loop-left-preserved g c = record {
  within = omega (arith, c.loop-left.invariant.within);
  run = run-on g.O.Pack.is_last _ c.loop-left.left _ c.loop-left.front c.in-Some.rest c.loop-left-test.true c.loop-left.invariant.within c.loop-left.invariant.run c.in-Some.ensures;
}
