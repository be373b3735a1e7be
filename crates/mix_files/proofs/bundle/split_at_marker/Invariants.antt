use Rattle.std.proofs.Common.{length}
use Rattle.mix_files.proofs.CutLemmas.{Remains}
use Rattle.mix_files.proofs.bundle.split_at_marker.Given as goal

abbrev pub invariant-loop-marker : goal.invariant-loop-marker
invariant-loop-marker l = Remains l.marker l.text l.rest

abbrev pub decreases-loop-marker : goal.decreases-loop-marker
decreases-loop-marker l = length l.rest
