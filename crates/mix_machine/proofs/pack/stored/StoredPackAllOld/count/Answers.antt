use Rattle.std.proofs.Common.{ap, length}
use Rattle.mix_machine.proofs.pack.stored.StoredPackAllOld.count.Goals as goal

pub returns : goal.returns
returns c = ap length c.self.view_is
