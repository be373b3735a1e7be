-- The state that the journal stands in gives the next one, or the fault.
use Rattle.std.proofs.Common.{refl}
use Rattle.mix_session.proofs.TimelineLemmas.{holds_now, timeline-is}
use Rattle.mix_session.proofs.CommandLemmas.{effect_of_change-done, effect_of_change-refused, before-change, Begun-unchanged}
use Rattle.mix_session.proofs.command.change_by.Goals as goal

pub returns-in-Ok-clause-effect : goal.returns-in-Ok-clause-effect
returns-in-Ok-clause-effect c =
    let given = holds_now c.args.journal.now c.in-Ok.ensures.stands c.in-Ok.ensures.given in
    let next = timeline-is _ _ _ _ c.in-Ok.ensures.first c.in-Ok.ensures.changes c.in-Ok.ensures.ahead in
    rw (effect_of_change-done _ _ _ given.1) (c.in-Ok.ensures.first, next, refl)

pub returns-in-Err-Fault-clause-effect : goal.returns-in-Err-Fault-clause-effect
returns-in-Err-Fault-clause-effect c =
    let fault = holds_now c.args.journal.now c.in-Err-Fault.ensures.stands (rw c.in-Err-Fault.field-0-is at c.in-Err-Fault.ensures.fault) in
    rw (effect_of_change-refused _ _ _ fault, c.in-Err-Fault.ensures.err) (refl, refl, refl)

pub returns-in-Err-Memory-clause-effect : goal.returns-in-Err-Memory-clause-effect
returns-in-Err-Memory-clause-effect c = rw c.in-Err-Memory.ensures.err (refl, Begun-unchanged _ _)

pub returns-in-Err-Memory-clause-memory : goal.returns-in-Err-Memory-clause-memory
returns-in-Err-Memory-clause-memory c =
    before-change c.args.journal.now _ c.args.change
    (holds_now c.args.journal.now c.in-Err-Memory.ensures.stands (rw c.in-Err-Memory.field-0-is at c.in-Err-Memory.ensures.last)) c.in-Err-Memory.ensures.err
