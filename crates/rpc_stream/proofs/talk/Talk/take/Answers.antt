-- A frame is heard, and answered by what its body asks for, or memory is refused for its answer.
use Rattle.std.proofs.Common.{inr, Ok, option_map, refl, subst}
use Rattle.std.proofs.lemmas.Result.{err_from_is_err_and}
use Rattle.rpc_stream.specs.Prelude.{asked_by, HearsAs, unheard}
use Rattle.rpc_stream.proofs.BodyLemmas.{hears-frame}
use Rattle.rpc_stream.proofs.talk.Talk.take.Goals as goal

pub returns-in_ok-turn-in-Frame-clause-taken : goal.returns-in_ok-turn-in-Frame-clause-taken
returns-in_ok-turn-in-Frame-clause-taken g c =
    let heard = (subst (λ h. HearsAs (Ok h) (unheard c.args.self.now.ear (g.R.In.rest c.args.input.now)) (unheard c.hear.new.self (g.R.In.rest c.hear.new.input))) c.in-Frame.is c.in_ok-hear.ensures.heard) in
    let body = option_map (λ b. b.items) c.in-Frame.body in
    (asked_by body, hears-frame body _ _ heard, c.in_ok-turn-in-Frame.ensures)

pub returns-in_err-turn-in-Frame-clause-taken : goal.returns-in_err-turn-in-Frame-clause-taken
returns-in_err-turn-in-Frame-clause-taken g c =
    let p = err_from_is_err_and c.from_residual-in_err-turn-in-Frame.result c.from_residual-in_err-turn-in-Frame.ensures.1 in
    let heard = (subst (λ h. HearsAs (Ok h) (unheard c.args.self.now.ear (g.R.In.rest c.args.input.now)) (unheard c.hear.new.self (g.R.In.rest c.hear.new.input))) c.in-Frame.is c.in_ok-hear.ensures.heard) in
    let body = option_map (λ b. b.items) c.in-Frame.body in
    rw (p.1, p.2) (inr (refl, asked_by body, hears-frame body _ _ heard))
