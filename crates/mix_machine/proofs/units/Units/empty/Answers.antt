use Rattle.mix_machine.proofs.UnitsLemmas.{are-empty, all-pushed}
use Rattle.mix_machine.proofs.units.Units.empty.Goals as goal

pub invariant_of-result : goal.invariant_of-result
invariant_of-result c = rw (all-pushed _ _ c.loop-kind-test.false c.loop-kind.invariant) are-empty

pub returns : goal.returns
returns c = all-pushed _ _ c.loop-kind-test.false c.loop-kind.invariant
