use Rattle.std.proofs.Common.{length}
use Rattle.mix_check.proofs.SayingLemmas.{SoFar}
use Rattle.mix_check.proofs.report.told.Given as goal

-- what is said so far is followed by what is said of those that are left
abbrev pub invariant-loop-rest : goal.invariant-loop-rest
invariant-loop-rest l = SoFar l.json l.name l.diagnostics l.rest l.text.items

abbrev pub decreases-loop-rest : goal.decreases-loop-rest
decreases-loop-rest l = length l.rest
