-- The session does it, and that is told.
use Rattle.std.proofs.Common.{subst}
use Rattle.mix_session.specs.declared.answer.Answer.{Answer}
use Rattle.mix_session.specs.Timeline.{Timeline}
use Rattle.dap_asked.specs.Deed.{effect_of_deed}
use Rattle.mix_dap.specs.Prelude.{acted, beside, Answered}
use Rattle.mix_dap.proofs.adapter.Adapter.act_on.Goals as goal

pub returns-in_ok-tell-in-Ok-clause-reacts : goal.returns-in_ok-tell-in-Ok-clause-reacts
returns-in_ok-tell-in-Ok-clause-reacts c =
    let does = c.in-Ok.ensures.does in
    rw does.1 (subst (λ (t : Timeline). Answered (acted c.args.act (effect_of_deed c.args.deed c.args.self.now.session.timeline).answer (beside c.args.self.now) t) c.args.request.now c.tell.new.self
    c.in_ok-tell-in-Ok.field-0 c.args.out.now c.tell.new.out) does.0 (subst (λ (a : Answer). Answered (acted c.args.act a (beside c.args.self.now)
    c.done.new.session.timeline) c.args.request.now c.tell.new.self c.in_ok-tell-in-Ok.field-0 c.args.out.now c.tell.new.out) c.in-Ok.ensures.answer
    c.in_ok-tell-in-Ok.ensures.reacts))
