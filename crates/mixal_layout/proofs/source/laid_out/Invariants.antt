use Rattle.std.proofs.Common.{length}
use Rattle.mixal_layout.proofs.source.laid_out.Given as goal

abbrev pub decreases-loop-alloc : goal.decreases-loop-alloc
decreases-loop-alloc l = length l.rest
