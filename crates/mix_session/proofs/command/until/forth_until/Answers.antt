-- The marks are those of the machine before the first change, and what is known of conflicts is of the changes done.
use Rattle.std.proofs.Common.{refl}
use Rattle.mix_session.specs.Prelude.{Again, has_conflict}
use Rattle.mix_session.proofs.CommandLemmas.{broken-before, broken-none, if_err}
use Rattle.mix_session.proofs.UntilLemmas.{Begun-forth_none, effect-err, marks_there}
use Rattle.mix_session.proofs.command.until.forth_until.Goals as goal

pub returns-in_err-known-clause-effect : goal.returns-in_err-known-clause-effect
returns-in_err-known-clause-effect c =
    effect-err _ c.args.journal.now c.args.journal.now _ c.from_residual.ensures.0 refl (Begun-forth_none c.args.conditions.now c.args.journal.now)

pub seek_forth-requires-clause-marks : goal.seek_forth-requires-clause-marks
seek_forth-requires-clause-marks c =
    marks_there c.args.journal.now c.state.result.now c.args.conditions.now c.as_slice-watched.result.now c.marks_at-marks.result c.len.result c.state.ensures
    c.as_slice-watched.ensures.is c.len.ensures.is c.marks_at-marks.ensures

pub seek_forth-requires-clause-known : goal.seek_forth-requires-clause-known
seek_forth-requires-clause-known c = c.in_ok-known.ensures.known Again

pub returns-in_err-known-clause-memory : goal.returns-in_err-known-clause-memory
returns-in_err-known-clause-memory c =
    if_err c.from_residual.result _ (broken-none (has_conflict c.args.conditions.now) _ c.args.journal.now
    (rw c.as_slice-watched.ensures.is at c.in_err-known.ensures.memory))

pub returns-clause-memory : goal.returns-clause-memory
returns-clause-memory c =
    broken-before _ (has_conflict c.args.conditions.now) _ _ _ (rw c.as_slice-watched.ensures.is at c.seek_forth.ensures.memory)
