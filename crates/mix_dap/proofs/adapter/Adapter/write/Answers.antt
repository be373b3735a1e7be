-- The answer, and then what is out of date.
use Rattle.dap_points.specs.Written.{write_asked}
use Rattle.mix_dap.proofs.ReactionLemmas.{write-answered}
use Rattle.mix_dap.proofs.adapter.Adapter.write.Goals as goal

pub returns-clause-reacts : goal.returns-clause-reacts
returns-clause-reacts c =
    write-answered (write_asked c.args.self.now.session c.args.request.now) c.args.self.now c.write_memory.new.session.timeline _ c.args.request.now
    c.args.out.now c.reply.new.self c.invalidated.new.out c.in_ok-count.ensures.writes c.in_ok-reply.ensures.told c.in_ok-invalidated.ensures
