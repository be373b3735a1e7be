use Rattle.std.proofs.Common.{◌-◌}
use Rattle.mix_session.proofs.GoingLemmas.{IsGoing}
use Rattle.mix_session.proofs.command.runs.run_on.Given as goal

abbrev pub invariant-loop-done : goal.invariant-loop-done
invariant-loop-done l = IsGoing l.way l.stops l.fn.journal l.journal l.most l.done l.marks l.known l.many

abbrev pub decreases-loop-done : goal.decreases-loop-done
decreases-loop-done l = l.most - l.done
