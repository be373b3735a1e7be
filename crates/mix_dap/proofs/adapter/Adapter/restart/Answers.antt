-- The session is at its first state, and that is told.
use Rattle.std.proofs.Common.{IfOk, subst}
use Rattle.mix_session.specs.Timeline.{Timeline}
use Rattle.mix_dap.specs.Prelude.{beside, restarted, Answered}
use Rattle.mix_dap.proofs.adapter.Adapter.restart.Goals as goal

pub returns-in-Ok-clause-reacts : goal.returns-in-Ok-clause-reacts
returns-in-Ok-clause-reacts c =
    subst (λ (t : Timeline). IfOk c.tell_beginning.result (λ next. Answered (restarted (beside c.args.self.now) t) c.args.request.now c.tell_beginning.new.self
    next c.args.out.now c.tell_beginning.new.out)) c.in-Ok.ensures.effect.1 c.tell_beginning.ensures.reacts
