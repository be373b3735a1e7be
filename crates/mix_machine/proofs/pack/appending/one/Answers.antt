use Rattle.mix_machine.proofs.PackLemmas.{said-one}
use Rattle.mix_machine.proofs.pack.appending.one.Goals as goal

pub returns-clause-said : goal.returns-clause-said
returns-clause-said c = λ a v e. said-one _ _ c.args.kind c.args.payload _ a v c.header.ensures c.push_reserved.ensures.items e
