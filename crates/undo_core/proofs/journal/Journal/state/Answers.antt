use Rattle.undo_core.proofs.Stored.{stored_replay}
use Rattle.undo_core.proofs.journal.Journal.state.Goals as goal

pub returns : goal.returns
returns g c = rw (← c.self.view_is) (stored_replay c.self.invariant)
