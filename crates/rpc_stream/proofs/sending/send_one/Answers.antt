-- Of a message a beginning was sent.
use Rattle.std.proofs.Common.{rules, ◌≡◌, subst}
use Rattle.std.proofs.lemmas.Result.{err_from_is_err_and}
use Rattle.serde_json.specs.View.{view}
use Rattle.rpc_frame.specs.Frame.{frame_of}
use Rattle.rpc_message.specs.Message.{IsTextOf}
use Rattle.rpc_stream.proofs.BrokenLemmas.{front-one}
use Rattle.mix_stream.specs.Stream.{AppendsFront}
use Rattle.rpc_stream.proofs.sending.send_one.Goals as goal

pub returns-in_err-write_all-clause-begun : goal.returns-in_err-write_all-clause-begun
returns-in_err-write_all-clause-begun g c =
    let p = err_from_is_err_and c.from_residual-in_err-write_all.result c.from_residual-in_err-write_all.ensures.1 in
    let is : IsTextOf c.as_str.result.now (view c.args.message.now) = search rules in
    let framed : c.as_bytes.result.now ≡ frame_of c.as_str.result.now = search rules in
    rw p.1
    (front-one (view c.args.message.now) c.as_str.result.now (g.W.Out.told c.args.out.now) (g.W.Out.told c.write_all.new.out) is
    (subst (AppendsFront (g.W.Out.told c.args.out.now) (g.W.Out.told c.write_all.new.out)) framed c.in_err-write_all.ensures.begun))
