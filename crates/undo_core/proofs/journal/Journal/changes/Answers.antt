use Rattle.undo_core.proofs.Stored.{stored_within}
use Rattle.undo_core.proofs.journal.Journal.changes.Goals as goal

pub of-requires-clause-within : goal.of-requires-clause-within
of-requires-clause-within g c = rw c.deref.ensures.value (stored_within c.self.invariant)
