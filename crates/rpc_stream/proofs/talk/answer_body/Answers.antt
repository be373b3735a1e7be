-- The request that the body is, is served.
use Rattle.rpc_message.specs.Message.{waits}
use Rattle.rpc_stream.proofs.BodyLemmas.{answers}
use Rattle.rpc_stream.proofs.talk.answer_body.Goals as goal

pub returns-in_ok-turn-in-Ok : goal.returns-in_ok-turn-in-Ok
returns-in_ok-turn-in-Ok g c =
    answers g.S.Serves.serves c.args.body.now c.in-Ok.request (c.args.served.now, c.args.outbox.now.seq) (c.serve.new.self, c.serve.new.outbox.seq) (waits c.serve.new.outbox) _ c.in-Ok.ensures c.in_ok-turn-in-Ok.ensures
