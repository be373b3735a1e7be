use Rattle.std.proofs.Common.{◌≡◌, ◌++◌, length}
use Rattle.mixal_asm.specs.Diagnose.{all_slips, slips_at}
use Rattle.mixal_asm.proofs.diagnosis.add_slips.Given as goal

abbrev pub invariant-loop-rest : goal.invariant-loop-rest
invariant-loop-rest l =
    l.list.items ++ slips_at l.number l.line l.rest ≡ l.initial.list.items ++ slips_at l.number l.line all_slips

abbrev pub decreases-loop-rest : goal.decreases-loop-rest
decreases-loop-rest l = length l.rest
