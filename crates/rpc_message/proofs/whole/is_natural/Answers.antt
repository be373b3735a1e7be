-- The bounds, which the code has by their bits.
use Rattle.std.proofs.Common.{ap, ◌&&◌}
use Rattle.std.specs.Float.{float_zero, two_to}
use Rattle.std.specs.Float.Ieee.{eq, le, lt}
use Rattle.rpc_message.proofs.whole.is_natural.Goals as goal

pub returns : goal.returns
unfolding lib.Ieee.of_bits
returns c = ap (λ t. (eq t c.args.x && le float_zero c.args.x) && lt c.args.x (two_to 64)) c.trunc.ensures
