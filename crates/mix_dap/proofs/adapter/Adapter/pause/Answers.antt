-- The answer, and then that the program stands.
use Rattle.std.proofs.Common.{[], ◌∷◌, codes}
use Rattle.mix_dap.specs.Prelude.{stopped, only}
use Rattle.mix_dap.proofs.EventLemmas.{reply-alone, reply-then}
use Rattle.mix_dap.proofs.adapter.Adapter.pause.Goals as goal

pub returns : goal.returns
returns c =
    reply-then c.args.request.now (stopped (only (codes "pause")) ∷ []) c.args.out.now c.reply.new.self c.stopped.new.out
    (reply-alone c.args.request.now _ c.args.out.now c.reply.new.self c.in_ok-reply.ensures.told) c.in_ok-stopped.ensures
