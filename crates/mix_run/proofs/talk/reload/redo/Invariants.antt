use Rattle.std.proofs.Common.{◌≡◌, length}
use Rattle.mix_lines.specs.Lines.{lines}
use Rattle.mix_run.specs.Asked.{after_lines}
use Rattle.mix_run.proofs.talk.reload.redo.Given as goal

-- the lines that are left lead where all lead
abbrev pub invariant-loop-rest : goal.invariant-loop-rest
invariant-loop-rest l = after_lines l.session (lines l.rest) ≡ after_lines l.fn.session (lines l.script)

abbrev pub decreases-loop-rest : goal.decreases-loop-rest
decreases-loop-rest l = length l.rest
