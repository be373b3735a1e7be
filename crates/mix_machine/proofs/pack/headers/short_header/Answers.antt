use Rattle.std.proofs.Common.{◌+◌, ◌-◌, ◌*◌, ap}
use Rattle.mix_machine.proofs.StepLemmas.{short-made}
use Rattle.mix_machine.proofs.pack.headers.short_header.Goals as goal

pub returns : goal.returns
returns c =
    short-made c.header.result _ c.bits_below-bits.result c.args.time c.number.result c.args.reg c.args.word c.args.from c.args.to c.header.ensures
    (ap (λ n. c.bits_below-bits.result * 32 + (c.args.time - 1) * 8 + n) c.from.ensures) c.number.ensures.is
    c.number.ensures.listed c.requires.register c.requires.time c.requires.times c.requires.loc c.requires.clock c.bits_below-bits.ensures.is
