use Rattle.std.proofs.Common.{◌≡◌}
use Rattle.mix_run.proofs.print.drawn.back_to.Given as goal

abbrev pub invariant-loop-more : goal.invariant-loop-more
invariant-loop-more l = l.session.program ≡ l.fn.session.program

abbrev pub decreases-loop-more : goal.decreases-loop-more
decreases-loop-more l = l.more
