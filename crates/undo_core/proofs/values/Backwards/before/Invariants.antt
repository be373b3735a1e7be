use Rattle.std.proofs.Common.{◌≡◌, ◌-◌, length, take}
use Rattle.undo_core.proofs.values.Backwards.before.Given as goal

abbrev pub invariant-loop : goal.invariant-loop
invariant-loop g l = l.front ≡ take (length l.self - l.counter) l.self
