-- The messages so far are sent.
use Rattle.std.proofs.Common.{◌≡◌, take}
use Rattle.std.specs.Prelude.{map}
use Rattle.serde_json.specs.View.{view}
use Rattle.rpc_stream.specs.Sent.{SendsAll}
use Rattle.rpc_stream.proofs.sending.send_all.Given as goal

abbrev pub invariant-loop-message : goal.invariant-loop-message
invariant-loop-message g l = record {
  sent : SendsAll (map view (take l.message-index l.messages)) (g.W.Out.told l.fn.out) (g.W.Out.told l.out);
  failed : g.W.Out.failed l.out ≡ g.W.Out.failed l.fn.out;
}
