use Rattle.std.proofs.Common.{◌∙◌}
use Rattle.undo_core.proofs.Stored.{stored_count}
use Rattle.undo_core.proofs.journal.Journal.kept_len.Goals as goal

pub returns : goal.returns
returns g c = rw (← c.self.view_is) (c.len.ensures.count ∙ stored_count c.self.invariant)
