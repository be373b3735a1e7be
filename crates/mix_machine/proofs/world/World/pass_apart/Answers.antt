use Rattle.std.proofs.Common.{arith}
use Rattle.mix_machine.proofs.world.World.pass_apart.Goals as goal

pub perform-requires-clause-room : goal.perform-requires-clause-room
perform-requires-clause-room c =
    let room = c.in_ok-reserve.ensures in
    let few = c.requires.few in
    omega (arith, few)
