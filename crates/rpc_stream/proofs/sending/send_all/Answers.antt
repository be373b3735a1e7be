-- One message more is sent, or a beginning of it.
use Rattle.std.proofs.Common.{◌<◌, ◌∙◌, length, arith}
use Rattle.std.proofs.lemmas.Result.{err_from_is_err_and}
use Rattle.serde_json.specs.View.{view}
use Rattle.rpc_stream.proofs.BrokenLemmas.{front-step}
use Rattle.rpc_stream.proofs.SendLemmas.{sends-step}
use Rattle.rpc_stream.proofs.sending.send_all.Goals as goal

pub loop-message-preserved : goal.loop-message-preserved
loop-message-preserved g c =
    let below : c.loop-message.message-index < length c.args.messages.now = omega arith in
    record {
      sent = sends-step view c.args.messages.now c.loop-message.message-index c.message-item.result _ _ _ below c.message-item.is
          c.loop-message.invariant.sent c.in_ok-send_one.ensures.sent;
      failed = c.in_ok-send_one.ensures.failed.1 (λ e. cc) ∙ c.loop-message.invariant.failed;
    }

pub returns-in_err-send_one-clause-begun : goal.returns-in_err-send_one-clause-begun
returns-in_err-send_one-clause-begun g c =
    let p = err_from_is_err_and c.from_residual.result c.from_residual.ensures.1 in
    let below : c.loop-message.message-index < length c.args.messages.now = omega arith in
    rw p.1
    (front-step view c.args.messages.now c.loop-message.message-index c.message-item.result _ _ _ below c.message-item.is c.loop-message.invariant.sent
    c.in_err-send_one.ensures.begun)
