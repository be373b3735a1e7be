use Rattle.std.proofs.Common.{slice_get, arith, ◌∙◌, ap, reverse}
use Rattle.mix_word.specs.Register.{all_registers}
use Rattle.mix_machine.specs.declared.old.Old.TheVariants as old
use Rattle.mix_machine.proofs.PackLemmas.{register-header}
use Rattle.mix_machine.proofs.pack.appending.register.Goals as goal

pub returns-then-magnitude-lt8388608-clause-said : goal.returns-then-magnitude-lt8388608-clause-said
returns-then-magnitude-lt8388608-clause-said c =
    λ a. c.one.ensures.said a (old.Reg c.args.reg c.args.word)
    (register-header c.from-number.result c.short_bits.result c.args.reg c.args.word a (reverse c.args.units.now.items)
    (omega (arith, c.from-number.ensures, c.number.ensures.bound))
    (ap (slice_get all_registers) c.from-number.ensures ∙ c.number.ensures.listed) c.short_bits.ensures.is)
