use Rattle.std.proofs.Common.{arith}
use Rattle.undo_core.proofs.Stored.{stored_within}
use Rattle.undo_core.proofs.journal.Journal.ahead.Goals as goal

pub overflow_sub-result : goal.overflow_sub-result
overflow_sub-result g c =
    let count = rw c.deref.ensures.value at c.count_in.ensures.count in
    omega (arith, count, stored_within c.self.invariant)
