-- So far each line is like the one beside it.
use Rattle.std.proofs.Common.{length}
use Rattle.mix_lines.specs.Lines.{lines}
use Rattle.mixal_layout.specs.Alike.{AllAlike}
use Rattle.mixal_layout.proofs.source.all_alike.Given as goal

abbrev pub invariant-loop-first : goal.invariant-loop-first
invariant-loop-first l = AllAlike (lines l.first) (lines l.second) → AllAlike (lines l.source) (lines l.text)

abbrev pub decreases-loop-first : goal.decreases-loop-first
decreases-loop-first l = length l.first
