use Rattle.std.proofs.Common.{◌-◌}
use Rattle.mix_session.proofs.OverLemmas.{IsGoing}
use Rattle.mix_session.proofs.over.count_over.Given as goal

abbrev pub invariant-loop-done : goal.invariant-loop-done
invariant-loop-done l = IsGoing l.start l.world l.most l.done l.calls

abbrev pub decreases-loop-done : goal.decreases-loop-done
decreases-loop-done l = l.most - l.done
