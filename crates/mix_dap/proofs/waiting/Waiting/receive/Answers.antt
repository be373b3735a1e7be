-- The answer to an end that is asked for, and then that end.
use Rattle.std.proofs.Common.{refl, [], ◌∷◌}
use Rattle.mix_dap.specs.Events.{terminated}
use Rattle.mix_dap.proofs.EventLemmas.{reply-alone, reply-then}
use Rattle.mix_dap.proofs.waiting.Waiting.receive.Goals as goal

pub returns-in_ok-tell_event-in-Terminate-clause-shows : goal.returns-in_ok-tell_event-in-Terminate-clause-shows
returns-in_ok-tell_event-in-Terminate-clause-shows g c =
    rw (c.in-Ok.is, c.in-Terminate.is) (
      refl,
      reply-then c.args.request.now (terminated ∷ []) c.args.out.now c.reply-in-Terminate.new.self c.tell_event.new.out
          (reply-alone c.args.request.now _ c.args.out.now c.reply-in-Terminate.new.self c.in_ok-reply-in-Terminate.ensures.told)
          c.in_ok-tell_event-in-Terminate.ensures,
    )
