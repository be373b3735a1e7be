-- The marks are those of the machine before the first step, and what is known of conflicts is of the changes done.
use Rattle.std.proofs.Common.{refl}
use Rattle.mix_session.specs.Stops.{at_breaks_or}
use Rattle.mix_session.specs.Prelude.{New, has_conflict}
use Rattle.mix_session.proofs.CommandLemmas.{Begun-none, broken-before, broken-none, if_err}
use Rattle.mix_session.proofs.UntilLemmas.{effect-err, marks_there}
use Rattle.mix_session.proofs.command.runs.run_until.Goals as goal

pub returns-in_err-known-clause-effect : goal.returns-in_err-known-clause-effect
returns-in_err-known-clause-effect c =
    effect-err _ c.args.journal.now c.args.journal.now _ c.from_residual.ensures.0 refl
    (Begun-none New (at_breaks_or c.args.conditions.now) c.args.journal.now c.args.count)

pub returns-in_err-known-clause-memory : goal.returns-in_err-known-clause-memory
returns-in_err-known-clause-memory c =
    let waits = rw c.as_slice-watched.ensures.is at c.in_err-known.ensures.memory in
    if_err c.from_residual.result _ (broken-none (has_conflict c.args.conditions.now) _ c.args.journal.now waits)

pub returns-clause-memory : goal.returns-clause-memory
returns-clause-memory c =
    broken-before _ (has_conflict c.args.conditions.now) _ _ _ (rw (c.stops_at.ensures, c.as_slice-watched.ensures.is) at c.ran.ensures.memory)

pub ran-requires-clause-marks : goal.ran-requires-clause-marks
ran-requires-clause-marks c =
    rw c.stops_at.ensures
    (marks_there c.args.journal.now c.state.result.now c.args.conditions.now c.as_slice-watched.result.now c.marks_at-marks.result c.len.result c.state.ensures
    c.as_slice-watched.ensures.is c.len.ensures.is c.marks_at-marks.ensures)

pub ran-requires-clause-known : goal.ran-requires-clause-known
ran-requires-clause-known c = rw c.stops_at.ensures (c.in_ok-known.ensures.known New)
