-- The bounds, which the code has by their bits.
use Rattle.std.proofs.Common.{ap, ◌&&◌}
use Rattle.std.specs.Float.{minus_two_to, two_to}
use Rattle.std.specs.Float.Ieee.{eq, lt}
use Rattle.rpc_message.proofs.whole.is_integer.Goals as goal

pub returns : goal.returns
unfolding lib.Ieee.neg lib.Ieee.of_bits
returns c = ap (λ t. (eq t c.args.x && lt (minus_two_to 63) c.args.x) && lt c.args.x (two_to 63)) c.trunc.ensures
