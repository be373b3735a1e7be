use Rattle.std.proofs.Common.{◌+◌, ◌*◌, ap}
use Rattle.mix_machine.proofs.StepLemmas.{moment-made}
use Rattle.mix_machine.proofs.pack.headers.moment_header.Goals as goal

pub returns : goal.returns
returns c =
    moment-made c.header.result _ c.args.time c.args.from c.args.to c.header.ensures (ap (λ l. c.args.time * 4096 + l) c.from.ensures) c.requires.loc c.requires.clock
