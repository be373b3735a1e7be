use Rattle.std.proofs.Common.{◌≡◌, length}
use Rattle.mix_shown.specs.Character.{left_past}
use Rattle.mix_shown.proofs.shown.left_past.Given as goal

abbrev pub invariant-loop-rest : goal.invariant-loop-rest
invariant-loop-rest l = left_past l.at_hand l.ahead l.rest ≡ left_past l.fn.left l.fn.count l.fn.bytes

abbrev pub decreases-loop-rest : goal.decreases-loop-rest
decreases-loop-rest l = length l.rest
