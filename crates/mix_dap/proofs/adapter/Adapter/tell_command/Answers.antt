-- The answer, the rows, and then what is out of date.
use Rattle.std.proofs.Common.{rules, refl, ◌++◌}
use Rattle.mix_session.specs.Timeline.{world_of}
use Rattle.mix_dap.specs.Prelude.{invalidated, outputs}
use Rattle.mix_dap.proofs.EventLemmas.{reply-then, rows-then}
use Rattle.mix_dap.proofs.adapter.Adapter.tell_command.Goals as goal

pub returns-clause-reacts : goal.returns-clause-reacts
returns-clause-reacts c = (
  tt,
  refl,
  refl,
  refl,
  search rules,
  refl,
  reply-then c.args.request.now (outputs c.args.self.now.printed (world_of c.args.self.now.session.timeline) ++ invalidated c.args.self.now.client)
      c.args.out.now c.tell_reply.new.out c.invalidated.new.out c.in_ok-tell_reply.ensures
      (rows-then c.args.self.now.printed (world_of c.args.self.now.session.timeline) c.world.result.now (invalidated c.args.self.now.client) c.tell_reply.new.out c.tell.new.out
      c.invalidated.new.out c.world.ensures c.in_ok-tell.ensures.prints c.in_ok-invalidated.ensures),
)
