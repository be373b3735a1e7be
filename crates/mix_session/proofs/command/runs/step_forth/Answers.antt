-- The state that the journal stands in gives the next one, or the fault.
use Rattle.mix_session.proofs.MoveLemmas.{HasMoved-new, HasMoved-fault, more-new}
use Rattle.mix_session.proofs.command.runs.step_forth.Goals as goal

pub returns-in-Ok-clause-moved : goal.returns-in-Ok-clause-moved
returns-in-Ok-clause-moved c =
    HasMoved-new c.args.journal.now _ c.in-Ok.ensures.stands c.in-Ok.ensures.first c.in-Ok.ensures.changes c.in-Ok.ensures.ahead c.in-Ok.ensures.given

pub returns-in-Err-Fault-clause-moved : goal.returns-in-Err-Fault-clause-moved
returns-in-Err-Fault-clause-moved c =
    HasMoved-fault c.args.journal.now _ _ c.in-Err-Fault.ensures.stands c.in-Err-Fault.ensures.err (rw c.in-Err-Fault.field-0-is at c.in-Err-Fault.ensures.fault)

pub returns-in-Err-Memory-clause-more : goal.returns-in-Err-Memory-clause-more
returns-in-Err-Memory-clause-more c =
    more-new c.args.journal.now c.in-Err-Memory.ensures.stands (rw c.in-Err-Memory.field-0-is at c.in-Err-Memory.ensures.last)
