-- A request that is not as it has to be is refused.
use Rattle.mix_dap.proofs.ReactionLemmas.{on-misread}
use Rattle.mix_dap.proofs.adapter.Adapter.receive.Goals as goal

pub returns-in-Err-clause-reacts : goal.returns-in-Err-clause-reacts
returns-in-Err-clause-reacts c =
    on-misread c.refuse.result c.args.asked c.in-Err.fault c.args.request.now c.args.self.now c.args.out.now c.refuse.new.out c.in-Err.is
    c.refuse.ensures.flow c.refuse.ensures.told
