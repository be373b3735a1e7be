-- The answer, what there is to say of the source, and then that the client may begin.
use Rattle.mix_dap.proofs.EventLemmas.{launch-done}
use Rattle.mix_dap.proofs.adapter.Adapter.open.Goals as goal

pub returns-clause-prints : goal.returns-clause-prints
returns-clause-prints c =
    launch-done c.args.request.now c.args.texts _ _ c.args.out.now c.reply.new.self c.tell_report-2.new.out c.tell_event.new.out c.in-Ok.ensures.ok
    c.in_ok-reply.ensures.told c.in_ok-tell_report.ensures c.in_ok-tell_event.ensures
