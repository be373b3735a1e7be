use Rattle.std.proofs.Common.{◌≡◌, ◌++◌, length}
use Rattle.mix_lines.specs.Lines.{lines}
use Rattle.mix_run.specs.Points.{pieces}
use Rattle.mix_run.proofs.talk.points.pieces.Given as goal

-- what was taken so far, and what is left, are all
abbrev pub invariant-loop-rest : goal.invariant-loop-rest
invariant-loop-rest l = l.text.items ++ pieces l.session l.taken (lines l.rest) ≡ pieces l.session l.taken (lines l.points)

abbrev pub decreases-loop-rest : goal.decreases-loop-rest
decreases-loop-rest l = length l.rest
