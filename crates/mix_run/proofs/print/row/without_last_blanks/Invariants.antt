use Rattle.std.proofs.Common.{◌≡◌, length}
use Rattle.mix_run.specs.Print.{without_last_blanks}
use Rattle.mix_run.proofs.print.row.without_last_blanks.Given as goal

abbrev pub invariant-loop-text : goal.invariant-loop-text
invariant-loop-text l = without_last_blanks l.text ≡ without_last_blanks l.fn.text

abbrev pub decreases-loop-text : goal.decreases-loop-text
decreases-loop-text l = length l.text
