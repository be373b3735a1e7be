-- An answer and what comes then, or a refusal.
use Rattle.mix_dap.specs.Reaction.{reaction}
use Rattle.mix_dap.proofs.ReactionLemmas.{on-broken, on-done, on-refused}
use Rattle.mix_dap.proofs.adapter.Adapter.react.Goals as goal

pub returns-in-Ok-clause-reacts : goal.returns-in-Ok-clause-reacts
returns-in-Ok-clause-reacts c =
    on-done c.go_on.result (reaction c.args.kind c.args.request.now c.args.self.now) c.args.request.now c.answer.new.self c.go_on.new.self c.in-Ok.then
    c.args.out.now c.answer.new.out c.go_on.new.out c.in-Ok.ensures.reacts c.go_on.ensures.flow c.go_on.ensures.goes

pub returns-in-Ok-clause-begun : goal.returns-in-Ok-clause-begun
returns-in-Ok-clause-begun c =
    on-broken c.go_on.result c.args.kind c.args.request.now c.args.self.now c.answer.new.self c.in-Ok.then c.args.out.now c.answer.new.out
    c.go_on.new.self.session.timeline c.in-Ok.ensures.reacts c.go_on.ensures.begun

pub returns-in-Err-Fault-clause-reacts : goal.returns-in-Err-Fault-clause-reacts
returns-in-Err-Fault-clause-reacts c =
    on-refused c.refuse.result c.args.kind c.args.request.now c.args.self.now c.answer.new.self c.in-Err-Fault.fault c.args.out.now c.answer.new.out
    c.refuse.new.out (rw c.in-Err-Fault.field-0-is at c.in-Err-Fault.ensures.reacts) c.refuse.ensures.flow c.refuse.ensures.told
