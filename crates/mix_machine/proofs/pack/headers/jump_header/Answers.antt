use Rattle.std.proofs.Common.{◌+◌, ◌*◌, ap}
use Rattle.mix_machine.proofs.StepLemmas.{jump-made}
use Rattle.mix_machine.proofs.pack.headers.jump_header.Goals as goal

pub returns : goal.returns
returns c =
    jump-made c.header.result _ c.bits_below.result c.args.word c.args.from c.args.to c.header.ensures
    (ap (λ l. c.bits_below.result * 8192 + l * 2) c.from.ensures) c.requires.loc c.requires.clock c.bits_below.ensures.is
