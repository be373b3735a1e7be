use Rattle.mix_machine.proofs.PackLemmas.{said-three}
use Rattle.mix_machine.proofs.pack.appending.three.Goals as goal

pub returns-clause-said : goal.returns-clause-said
returns-clause-said c =
    λ a v e. said-three _ _ _ _ c.args.kind c.args.payload _ c.args.first c.args.second a v c.header.ensures
    c.push_reserved.ensures.items c.push_reserved-2.ensures.items c.push_reserved-3.ensures.items e
