-- What was heard is answered, or nothing is.
use Rattle.std.proofs.Common.{inr, Ok, option_map, refl, subst}
use Rattle.std.proofs.lemmas.Result.{err_from_is_err_and}
use Rattle.rpc_stream.specs.Hearing.{HearsAs, unheard}
use Rattle.mix_lsp.proofs.ServedLemmas.{not_heard, turned}
use Rattle.mix_lsp.proofs.stream.turn.Goals as goal

pub returns-in_err-hear-clause-turn : goal.returns-in_err-hear-clause-turn
returns-in_err-hear-clause-turn g c =
    let p = err_from_is_err_and c.from_residual.result c.from_residual.ensures.1 in
    rw (p.1, p.2) (not_heard _ c.args.server.now.phase c.args.server.now.phase _ _ (g.W.Out.told c.args.out.now) c.in_err-hear.ensures.heard)

pub returns-in-End-clause-turn : goal.returns-in-End-clause-turn
returns-in-End-clause-turn g c =
    let heard = subst (λ h. HearsAs (Ok h) (unheard c.args.ear.now (g.R.In.rest c.args.input.now)) (unheard c.hear.new.self (g.R.In.rest c.hear.new.input))) c.in-End.is
    c.in_ok-hear.ensures.heard in
    inr (refl, heard, refl)

pub returns-in-Frame-clause-turn : goal.returns-in-Frame-clause-turn
returns-in-Frame-clause-turn g c =
    let heard = subst (λ h. HearsAs (Ok h) (unheard c.args.ear.now (g.R.In.rest c.args.input.now)) (unheard c.hear.new.self (g.R.In.rest c.hear.new.input))) c.in-Frame.is
    c.in_ok-hear.ensures.heard in
    turned c.answer.result c.args.server.now.phase c.answer.new.server.phase (option_map (λ b. b.items) c.in-Frame.body) _ _ (g.W.Out.told c.args.out.now)
    (g.W.Out.told c.answer.new.out) heard c.answer.ensures.answers
