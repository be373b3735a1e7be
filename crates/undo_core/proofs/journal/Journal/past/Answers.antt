use Rattle.std.proofs.Common.{◌∙◌, sym}
use Rattle.std.proofs.lemmas.List.{length-take-le}
use Rattle.undo_core.proofs.Stored.{stored_read, stored_within}
use Rattle.undo_core.proofs.journal.Journal.past.Goals as goal

pub of-requires : goal.of-requires
of-requires g c = rw (c.backwards.ensures, c.deref.ensures.value, ← c.self.view_is) (stored_read c.self.invariant _ c.len-count.ensures.count)

pub returns-clause-left : goal.returns-clause-left
returns-clause-left g c =
    rw (← c.self.view_is) (c.of.ensures.left ∙ sym (length-take-le c.self.inside.done _ (stored_within c.self.invariant)))
