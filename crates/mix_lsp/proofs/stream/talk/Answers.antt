-- One turn more, or the last one.
use Rattle.std.proofs.Common.{inl, inr, Ok, refl, subst, ◌∙◌, arith}
use Rattle.std.proofs.lemmas.Result.{err_from_is_err_and}
use Rattle.rpc_stream.specs.Hearing.{unheard}
use Rattle.mix_lsp.specs.Served.{TurnAs}
use Rattle.mix_lsp.proofs.ServedLemmas.{served, talks-next, talks-zero}
use Rattle.mix_lsp.proofs.stream.talk.Goals as goal

pub returns-in_err-turn-clause-served : goal.returns-in_err-turn-clause-served
returns-in_err-turn-clause-served g c =
    let p = err_from_is_err_and c.from_residual.result c.from_residual.ensures.1 in
    rw (p.1, p.2)
    (served _ c.args.server.now.phase c.turns.server.phase c.turn.new.server.phase _ _ _ _ _ _ c.turns.invariant.talks.0 c.in_err-turn.ensures.turn)

pub returns-in-Some-clause-served : goal.returns-in-Some-clause-served
returns-in-Some-clause-served g c =
    served _ c.args.server.now.phase c.turns.server.phase c.turn.new.server.phase _ _ _ _ _ _ c.turns.invariant.talks.0
    (inl (subst (λ o. TurnAs (Ok o) c.turns.server.phase c.turn.new.server.phase (unheard c.turns.ear (g.R.In.rest c.turns.input))
    (unheard c.turn.new.ear (g.R.In.rest c.turn.new.input)) (g.W.Out.told c.turns.out) (g.W.Out.told c.turn.new.out)) c.in-Some.is c.in_ok-turn.ensures.turn))

pub turns-init : goal.turns-init
turns-init g c = record { talks = talks-zero _ _ _; read = refl; written = refl }

pub turns-preserved : goal.turns-preserved
turns-preserved g c = record {
  talks =
      talks-next c.args.server.now.phase c.turns.server.phase c.turn.new.server.phase c.turns.turns _ _ _ _ _ _ c.turns.invariant.talks
      (subst (λ o. TurnAs (Ok o) c.turns.server.phase c.turn.new.server.phase (unheard c.turns.ear (g.R.In.rest c.turns.input))
      (unheard c.turn.new.ear (g.R.In.rest c.turn.new.input)) (g.W.Out.told c.turns.out) (g.W.Out.told c.turn.new.out)) c.in-None.is c.in_ok-turn.ensures.turn);
  read = c.in_ok-turn.ensures.read.1 (λ e. cc) ∙ c.turns.invariant.read;
  written = c.in_ok-turn.ensures.written.1 (λ e. cc) ∙ c.turns.invariant.written;
}

pub returns-clause-served : goal.returns-clause-served
returns-clause-served g c =
    served _ c.args.server.now.phase c.turns.server.phase c.turns.server.phase _ _ _ _ _ _ c.turns.invariant.talks.0
    (inr (omega (arith, c.turns.invariant.talks.1), refl, refl, refl))
