use Rattle.std.proofs.Common.{length}
use Rattle.mix_person.proofs.aside.part_text.Given as goal

abbrev pub decreases-loop-rest : goal.decreases-loop-rest
decreases-loop-rest l = length l.rest
