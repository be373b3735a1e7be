use Rattle.mix_word.specs.declared.operation.Operation.TheVariants.{Hlt}
use Rattle.mix_machine.proofs.Halting.{halting}
use Rattle.mix_machine.proofs.laws.halt_law.Goals as goal

pub returns : goal.returns
returns c = λ w t. halting w t (c.decode_law.ensures _ _ Hlt)
