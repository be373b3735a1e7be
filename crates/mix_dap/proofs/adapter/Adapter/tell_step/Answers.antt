-- The answer, the rows, and then why.
use Rattle.std.proofs.Common.{rules, [], ◌∷◌, ◌++◌}
use Rattle.mix_session.specs.Timeline.{world_of}
use Rattle.mix_dap.specs.Prelude.{stopped, outputs, word_at, end_of, why_of}
use Rattle.mix_dap.proofs.EventLemmas.{reply-alone, reply-then}
use Rattle.mix_dap.proofs.adapter.Adapter.tell_step.Goals as goal

pub returns-clause-reacts : goal.returns-clause-reacts
returns-clause-reacts c = (
  tt,
  search rules,
  search rules,
  search rules,
  search rules,
  search rules,
  reply-then c.args.request.now
      (outputs c.args.self.now.printed (world_of c.args.self.now.session.timeline)
      ++ stopped (why_of (word_at c.args.self.now.points c.args.self.now.session.timeline) (end_of c.args.answer)) ∷ [])
      c.args.out.now c.reply.new.self c.stop_step.new.out
      (reply-alone c.args.request.now _ c.args.out.now c.reply.new.self c.in_ok-reply.ensures.told)
      (rw c.end_of.ensures at c.in_ok-stop_step.ensures.tells),
)
