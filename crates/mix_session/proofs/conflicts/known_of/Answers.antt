-- What is known serves each way of a run.
use Rattle.std.proofs.Common.{◌∙◌, sym}
use Rattle.mix_session.proofs.KnownLemmas.{known_waits}
use Rattle.mix_session.proofs.conflicts.known_of.Goals as goal

pub returns-then-has_conflict-clause-known : goal.returns-then-has_conflict-clause-known
returns-then-has_conflict-clause-known c =
    known_waits c.args.watched.now c.args.journal.now c.of.result (sym c.has_conflict.ensures ∙ c.if-has_conflict.true) c.of.ensures

pub returns-else-has_conflict-clause-known : goal.returns-else-has_conflict-clause-known
returns-else-has_conflict-clause-known c =
    λ way. c.nothing.ensures c.args.watched.now way c.args.journal.now (sym c.has_conflict.ensures ∙ c.if-has_conflict.false)
