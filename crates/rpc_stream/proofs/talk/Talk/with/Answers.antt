-- One exchange more, or the end after those that were had.
use Rattle.std.proofs.Common.{Ok, ap, subst, ◌∙◌, arith}
use Rattle.std.proofs.lemmas.Result.{err_from_is_err_and}
use Rattle.rpc_stream.specs.Prelude.{unheard, TurnAs}
use Rattle.rpc_stream.proofs.ServingLemmas.{broken-then, counted-out, ended-then, talk-next}
use Rattle.rpc_stream.proofs.talk.Talk.with.Goals as goal

pub returns-in_err-turn-clause-talked : goal.returns-in_err-turn-clause-talked
returns-in_err-turn-clause-talked g c =
    let p = err_from_is_err_and c.from_residual.result c.from_residual.ensures.1 in
    rw (p.1, p.2)
    (broken-then g.S.Serves.serves _ (c.args.served.now, c.args.self.now.outbox.seq) (c.turns.served, c.turns.self.outbox.seq) (c.turn.new.served, c.turn.new.self.outbox.seq) c.turns.turns _ _ _ _ _ _
    c.turns.invariant.talks c.in_err-turn.ensures.talked)

pub returns-in-Over-clause-talked : goal.returns-in-Over-clause-talked
returns-in-Over-clause-talked g c =
    ended-then g.S.Serves.serves (c.args.served.now, c.args.self.now.outbox.seq) (c.turns.served, c.turns.self.outbox.seq) (c.turn.new.served, c.turn.new.self.outbox.seq) c.turns.turns _ _ _ _ _ _
    c.turns.invariant.talks
    (subst (λ o. TurnAs g.S.Serves.serves (Ok o) (c.turns.served, c.turns.self.outbox.seq) (c.turn.new.served, c.turn.new.self.outbox.seq) (unheard c.turns.self.ear (g.R.In.rest c.turns.input)) (unheard c.turn.new.self.ear (g.R.In.rest c.turn.new.input)) (g.W.Out.told c.turns.out) (g.W.Out.told c.turn.new.out)) c.in-Over.is c.in_ok-turn.ensures.talked)

pub turns-preserved : goal.turns-preserved
turns-preserved g c = record {
  talks =
      talk-next g.S.Serves.serves (c.args.served.now, c.args.self.now.outbox.seq) (c.turns.served, c.turns.self.outbox.seq) (c.turn.new.served, c.turn.new.self.outbox.seq) c.turns.turns _ _ _ _ _ _
      c.turns.invariant.talks
      (subst (λ o. TurnAs g.S.Serves.serves (Ok o) (c.turns.served, c.turns.self.outbox.seq) (c.turn.new.served, c.turn.new.self.outbox.seq) (unheard c.turns.self.ear (g.R.In.rest c.turns.input)) (unheard c.turn.new.self.ear (g.R.In.rest c.turn.new.input)) (g.W.Out.told c.turns.out) (g.W.Out.told c.turn.new.out)) c.in-On.is c.in_ok-turn.ensures.talked);
  none = c.in_ok-turn.ensures.none (ap Ok c.in-On.is);
  read = c.in_ok-turn.ensures.read.1 (λ e. cc) ∙ c.turns.invariant.read;
  written = c.in_ok-turn.ensures.written.1 (λ e. cc) ∙ c.turns.invariant.written;
}

pub returns-clause-talked : goal.returns-clause-talked
returns-clause-talked g c =
    counted-out g.S.Serves.serves (c.args.served.now, c.args.self.now.outbox.seq) (c.turns.served, c.turns.self.outbox.seq) c.turns.turns _ _ _ _ (omega arith) c.turns.invariant.talks
