use Rattle.std.proofs.Common.{◌+◌, ◌*◌, ◌∙◌, ap}
use Rattle.mix_machine.proofs.StepLemmas.{whole-made}
use Rattle.mix_machine.proofs.pack.moved.append_whole.Goals as goal

pub returns-clause-said : goal.returns-clause-said
returns-clause-said c =
    whole-made _ _ _ _ c.header.result _ c.args.from c.args.anchor c.args.to c.append_time.ensures.items c.append_time-2.ensures.items c.push_reserved.ensures.items
    c.header.ensures (ap (λ l. l * 4096 + c.from-2.result) c.from.ensures ∙ ap (λ l. c.args.anchor.loc * 4096 + l) c.from-2.ensures) c.requires.loc
