use Rattle.std.proofs.Common.{◌≡◌, length}
use Rattle.mixal_asm.specs.Diagnose.{with_faults}
use Rattle.mixal_asm.proofs.diagnosis.put_faults.Given as goal

abbrev pub invariant-loop-rest : goal.invariant-loop-rest
invariant-loop-rest l = with_faults l.list.items l.rest ≡ with_faults l.initial.list.items l.faults

abbrev pub decreases-loop-rest : goal.decreases-loop-rest
decreases-loop-rest l = length l.rest
