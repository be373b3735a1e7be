use Rattle.std.proofs.Common.{◌≡◌, []}
use Rattle.mix_lines.specs.Lines.{lines}
use Rattle.mixal_asm.specs.Faults.{faults_from}
use Rattle.mixal_asm.proofs.faults.faults_up_to.Given as goal

abbrev pub invariant-loop-left : goal.invariant-loop-left
invariant-loop-left l =
    faults_from l.fn.most [] (lines l.fn.text) ≡ faults_from l.left l.told.items (lines l.fn.text)

abbrev pub decreases-loop-left : goal.decreases-loop-left
decreases-loop-left l = l.left
