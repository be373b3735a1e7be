use Rattle.std.proofs.Common.{arith}
use Rattle.mix_word.proofs.FieldLemmas.{kept_is, new_is, new_fits}
use Rattle.mix_word.proofs.field.replaced.Goals as goal

pub overflow_add-result : goal.overflow_add-result
overflow_add-result c =
    let a = c.args in
    omega (arith, kept_is a.m a.below a.bits c.requires.within c.requires.bound, new_is a.v a.below a.bits c.requires.within, new_fits a.m a.v a.below a.bits c.requires.within c.requires.bound)

pub returns-clause-is : goal.returns-clause-is
returns-clause-is c =
    let a = c.args in
    omega (arith, kept_is a.m a.below a.bits c.requires.within c.requires.bound, new_is a.v a.below a.bits c.requires.within)

pub returns-clause-bound : goal.returns-clause-bound
returns-clause-bound c =
    let a = c.args in
    omega (arith, kept_is a.m a.below a.bits c.requires.within c.requires.bound, new_is a.v a.below a.bits c.requires.within, new_fits a.m a.v a.below a.bits c.requires.within c.requires.bound)
