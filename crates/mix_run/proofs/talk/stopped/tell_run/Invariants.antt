use Rattle.std.proofs.Common.{length}
use Rattle.std.specs.Prelude.{⊤}
use Rattle.mix_run.proofs.talk.stopped.tell_run.Given as goal

abbrev pub invariant-loop-word : goal.invariant-loop-word
invariant-loop-word l = ⊤

abbrev pub decreases-loop-word : goal.decreases-loop-word
decreases-loop-word l = length l.words
