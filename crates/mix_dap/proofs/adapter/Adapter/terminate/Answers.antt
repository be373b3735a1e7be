-- The answer, and then the end of the program.
use Rattle.std.proofs.Common.{[], ◌∷◌}
use Rattle.mix_dap.specs.Events.{terminated}
use Rattle.mix_dap.proofs.EventLemmas.{reply-alone, reply-then}
use Rattle.mix_dap.proofs.adapter.Adapter.terminate.Goals as goal

pub returns : goal.returns
returns c =
    reply-then c.args.request.now (terminated ∷ []) c.args.out.now c.reply.new.self c.tell_event.new.out
    (reply-alone c.args.request.now _ c.args.out.now c.reply.new.self c.in_ok-reply.ensures.told) c.in_ok-tell_event.ensures
