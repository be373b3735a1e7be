use Rattle.std.proofs.Common.{length, arith}
use Rattle.mix_lines.proofs.NumberLemmas.{power-bound}
use Rattle.mix_lines.proofs.numbers.number_up_to.Goals as goal

pub returns-then-text-most-clause-below : goal.returns-then-text-most-clause-below
returns-then-text-most-clause-below c = power-bound (length c.args.text.now) c.args.most _ (omega arith) c.value.ensures.below
