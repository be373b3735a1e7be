-- The rows, and then why.
use Rattle.std.proofs.Common.{[], ◌∷◌}
use Rattle.mix_session.specs.Timeline.{world_of}
use Rattle.mix_dap.specs.Prelude.{stopped, out_of_memory}
use Rattle.mix_dap.proofs.EventLemmas.{rows-then}
use Rattle.mix_dap.proofs.adapter.Adapter.stop_for_memory.Goals as goal

pub returns-clause-tells : goal.returns-clause-tells
returns-clause-tells c =
    rows-then c.args.self.now.printed (world_of c.args.self.now.session.timeline) c.world.result.now (stopped (out_of_memory) ∷ []) c.args.out.now c.tell.new.out
    c.stopped.new.out c.world.ensures c.in_ok-tell.ensures.prints c.in_ok-stopped.ensures
