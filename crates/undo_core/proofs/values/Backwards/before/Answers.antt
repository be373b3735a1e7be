-- Those before the last of the values that are left.
use Rattle.std.proofs.Common.{◌-◌, ◌+◌, length, arith}
use Rattle.undo_core.proofs.Reverting.{front_of}
use Rattle.undo_core.proofs.values.Backwards.before.Goals as goal

pub loop-preserved : goal.loop-preserved
loop-preserved g c =
    front_of c.args.self.now _ _ _ (length c.args.self.now - (c.loop.counter + 1)) (length c.args.self.now - c.loop.counter) c.loop.invariant (omega arith)
    (omega (arith, c.loop-test.true, c.requires)) c.in-Some.ensures
