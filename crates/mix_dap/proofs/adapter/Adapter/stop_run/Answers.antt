-- The rows, and then why.
use Rattle.std.proofs.Common.{Some}
use Rattle.mix_session.specs.Timeline.{world_of}
use Rattle.mix_dap.specs.Prelude.{end_told, why_of_run}
use Rattle.mix_dap.proofs.EventLemmas.{rows-then}
use Rattle.mix_dap.proofs.adapter.Adapter.stop_run.Goals as goal

pub returns-clause-tells : goal.returns-clause-tells
returns-clause-tells c =
    rows-then c.args.self.now.printed (world_of c.args.self.now.session.timeline) c.world.result.now
    (end_told c.args.self.now.opening (Some c.args.end) (why_of_run c.args.way c.args.self.now.points c.args.self.now.session.timeline c.args.end)) c.args.out.now c.tell.new.out
    c.tell_ended.new.out c.world.ensures c.in_ok-tell.ensures.prints c.in_ok-tell_ended.ensures
