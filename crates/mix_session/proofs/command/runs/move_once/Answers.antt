-- Where no step stands ahead, a new one is done.
use Rattle.std.proofs.Common.{◌∙◌, sym}
use Rattle.mix_session.proofs.MoveLemmas.{ok-none_ahead}
use Rattle.mix_session.proofs.command.runs.move_once.Goals as goal

pub returns-in-Again-2-clause-moved : goal.returns-in-Again-2-clause-moved
returns-in-Again-2-clause-moved c =
    rw c.in-Again-2.is (ok-none_ahead c.args.journal.now _ _ (sym c.is_step_ahead.ensures ∙ c.if-is_step_ahead.false) c.step_forth-in-Again-2.ensures.moved)
