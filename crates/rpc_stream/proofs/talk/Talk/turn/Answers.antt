-- What waits for the next frame is sent, or a beginning of it, or nothing waits.
use Rattle.std.proofs.Common.{Ok, subst, sym}
use Rattle.std.proofs.lemmas.Result.{err_from_is_err_and}
use Rattle.rpc_message.specs.Message.{waits}
use Rattle.rpc_stream.specs.Prelude.{unheard, TakenAs, TurnAs}
use Rattle.rpc_stream.proofs.ServingLemmas.{taken-end, taken-off, went, went-off}
use Rattle.rpc_stream.proofs.talk.Talk.turn.Goals as goal

pub returns-in_err-take-clause-talked : goal.returns-in_err-take-clause-talked
returns-in_err-take-clause-talked g c =
    let p = err_from_is_err_and c.from_residual.result c.from_residual.ensures.1 in
    rw (p.1, p.2) (taken-off g.S.Serves.serves _ (c.args.served.now, c.args.self.now.outbox.seq) (c.take.new.served, c.take.new.self.outbox.seq) (waits c.take.new.self.outbox) _ _ (g.W.Out.told c.args.out.now) c.in_err-take.ensures.taken)

pub returns-in-None-clause-talked : goal.returns-in-None-clause-talked
returns-in-None-clause-talked g c =
    taken-end g.S.Serves.serves (c.args.served.now, c.args.self.now.outbox.seq) (c.take.new.served, c.take.new.self.outbox.seq) (waits c.take.new.self.outbox) _ _ (g.W.Out.told c.args.out.now)
    (subst (λ o. TakenAs g.S.Serves.serves (Ok o) (c.args.served.now, c.args.self.now.outbox.seq) (c.take.new.served, c.take.new.self.outbox.seq) (unheard c.args.self.now.ear (g.R.In.rest c.args.input.now)) (unheard c.take.new.self.ear (g.R.In.rest c.take.new.input)) (waits c.take.new.self.outbox)) c.in-None.is c.in_ok-take.ensures.taken)

pub returns-in_ok-send-in-Some-clause-talked : goal.returns-in_ok-send-in-Some-clause-talked
returns-in_ok-send-in-Some-clause-talked g c =
    subst (λ n. TurnAs g.S.Serves.serves (Ok c.in-Some.turn) (c.args.served.now, c.args.self.now.outbox.seq) (c.take.new.served, n)
    (unheard c.args.self.now.ear (g.R.In.rest c.args.input.now)) (unheard c.take.new.self.ear (g.R.In.rest c.take.new.input)) (g.W.Out.told c.args.out.now) (g.W.Out.told c.send.new.out))
    (sym c.in_ok-send-in-Some.ensures.seq)
    (went g.S.Serves.serves c.in-Some.turn (c.args.served.now, c.args.self.now.outbox.seq) (c.take.new.served, c.take.new.self.outbox.seq) (waits c.take.new.self.outbox) _ _ (g.W.Out.told c.args.out.now) (g.W.Out.told c.send.new.out)
    (subst (λ o. TakenAs g.S.Serves.serves (Ok o) (c.args.served.now, c.args.self.now.outbox.seq) (c.take.new.served, c.take.new.self.outbox.seq) (unheard c.args.self.now.ear (g.R.In.rest c.args.input.now)) (unheard c.take.new.self.ear (g.R.In.rest c.take.new.input)) (waits c.take.new.self.outbox)) c.in-Some.is c.in_ok-take.ensures.taken)
    c.in_ok-send-in-Some.ensures.sent)

pub returns-in_err-send-in-Some-clause-talked : goal.returns-in_err-send-in-Some-clause-talked
returns-in_err-send-in-Some-clause-talked g c =
    let p = err_from_is_err_and c.from_residual-in_err-send-in-Some.result c.from_residual-in_err-send-in-Some.ensures.1 in
    rw (p.1, p.2)
    (went-off g.S.Serves.serves _ c.in-Some.turn (c.args.served.now, c.args.self.now.outbox.seq) (c.take.new.served, c.take.new.self.outbox.seq) (c.take.new.served, c.send.new.outbox.seq) (waits c.take.new.self.outbox) _ _ (g.W.Out.told c.args.out.now)
    (g.W.Out.told c.send.new.out) c.in_err-send-in-Some.ensures.only
    (subst (λ o. TakenAs g.S.Serves.serves (Ok o) (c.args.served.now, c.args.self.now.outbox.seq) (c.take.new.served, c.take.new.self.outbox.seq) (unheard c.args.self.now.ear (g.R.In.rest c.args.input.now)) (unheard c.take.new.self.ear (g.R.In.rest c.take.new.input)) (waits c.take.new.self.outbox)) c.in-Some.is c.in_ok-take.ensures.taken)
    c.in_err-send-in-Some.ensures.begun)
