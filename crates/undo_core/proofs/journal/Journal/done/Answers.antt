use Rattle.std.proofs.Common.{sym, arith}
use Rattle.std.proofs.lemmas.List.{length-take-le}
use Rattle.undo_core.proofs.Stored.{stored_within, stored_few}
use Rattle.undo_core.proofs.journal.Journal.done.Goals as goal

pub returns-clause-count : goal.returns-clause-count
returns-clause-count g c = rw (← c.self.view_is) (sym (length-take-le c.self.inside.done _ (stored_within c.self.invariant)))

pub returns-clause-few : goal.returns-clause-few
returns-clause-few g c = omega (arith, c.len-few.ensures.few, c.len-few.ensures.count, stored_few c.self.invariant)
