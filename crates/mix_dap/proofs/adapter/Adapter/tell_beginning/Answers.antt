-- The answer, the rows, and then the beginning.
use Rattle.std.proofs.Common.{rules, ◌++◌}
use Rattle.mix_session.specs.Timeline.{world_of}
use Rattle.mix_dap.specs.Events.{beginning}
use Rattle.mix_dap.specs.Output.{outputs}
use Rattle.mix_dap.proofs.EventLemmas.{reply-alone, reply-then, rows-then}
use Rattle.mix_dap.proofs.adapter.Adapter.tell_beginning.Goals as goal

pub returns-clause-reacts : goal.returns-clause-reacts
returns-clause-reacts c = (
  tt,
  search rules,
  search rules,
  search rules,
  search rules,
  search rules,
  reply-then c.args.request.now (outputs c.args.self.now.printed (world_of c.args.self.now.session.timeline) ++ beginning c.args.self.now.opening)
      c.args.out.now c.reply.new.self c.begin.new.out
      (reply-alone c.args.request.now _ c.args.out.now c.reply.new.self c.in_ok-reply.ensures.told)
      (rows-then c.args.self.now.printed (world_of c.args.self.now.session.timeline) c.world.result.now (beginning c.args.self.now.opening) c.reply.new.self c.tell.new.out
      c.begin.new.out c.world.ensures c.in_ok-tell.ensures.prints c.in_ok-then.ensures.tells),
)
