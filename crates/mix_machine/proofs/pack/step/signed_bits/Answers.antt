use Rattle.mix_machine.proofs.StepLemmas.{plus-bits, minus-bits}
use Rattle.mix_machine.proofs.pack.step.signed_bits.Goals as goal

pub returns-in-Plus-clause-is : goal.returns-in-Plus-clause-is
returns-in-Plus-clause-is c = rw c.in-Plus.is (plus-bits c.args.limit c.args.magnitude c.requires.below c.requires.low)

pub returns-in-Minus-clause-is : goal.returns-in-Minus-clause-is
returns-in-Minus-clause-is c = rw c.in-Minus.is (minus-bits c.args.limit c.args.magnitude c.requires.below c.requires.low)
