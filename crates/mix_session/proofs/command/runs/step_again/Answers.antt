-- The step leads from the state before it to the one after it.
use Rattle.mix_session.proofs.CommandLemmas.{if_err}
use Rattle.mix_session.proofs.MoveLemmas.{HasMoved-again, more-again}
use Rattle.mix_session.proofs.command.runs.step_again.Goals as goal

pub returns-clause-moved : goal.returns-clause-moved
returns-clause-moved c =
    HasMoved-again c.args.journal.now c.forth.new.self _ _ c.requires c.in_ok-forth.ensures.first c.in_ok-forth.ensures.changes c.in_ok-forth.ensures.ahead
    c.state-before.ensures c.state-after.ensures

pub returns-in_err-forth-clause-more : goal.returns-in_err-forth-clause-more
returns-in_err-forth-clause-more c =
    if_err c.from_residual.result _ (more-again c.args.journal.now _ c.requires c.state-before.ensures c.in_err-forth.ensures.given)
