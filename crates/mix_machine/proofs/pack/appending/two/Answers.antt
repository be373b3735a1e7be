use Rattle.mix_machine.proofs.PackLemmas.{said-two}
use Rattle.mix_machine.proofs.pack.appending.two.Goals as goal

pub returns-clause-said : goal.returns-clause-said
returns-clause-said c =
    λ a v e. said-two _ _ _ c.args.kind c.args.payload _ c.args.first a v c.header.ensures c.push_reserved.ensures.items c.push_reserved-2.ensures.items e
