-- The session does it, and that is told.
use Rattle.std.proofs.Common.{subst}
use Rattle.mix_session.specs.Timeline.{Timeline}
use Rattle.mix_dap.specs.Reaction.{beside, replied}
use Rattle.mix_dap.specs.Reacts.{Answered}
use Rattle.mix_dap.proofs.adapter.Adapter.do_deed.Goals as goal

pub returns-in_ok-tell_command-in-Ok-clause-reacts : goal.returns-in_ok-tell_command-in-Ok-clause-reacts
returns-in_ok-tell_command-in-Ok-clause-reacts c =
    let does = c.in-Ok.ensures.does in
    rw does.1 (subst (λ (t : Timeline). Answered (replied (beside c.args.self.now) t) c.args.request.now c.tell_command.new.self
    c.in_ok-tell_command-in-Ok.field-0 c.args.out.now c.tell_command.new.out) does.0 c.in_ok-tell_command-in-Ok.ensures.reacts)
