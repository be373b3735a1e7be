use Rattle.std.proofs.Common.{◌≡◌, ◌+◌, length}
use Rattle.mix_shown.specs.Character.{plain_front}
use Rattle.mix_shown.proofs.shown.plain_front.Given as goal

abbrev pub invariant-loop-rest : goal.invariant-loop-rest
invariant-loop-rest l =
    (l.count + plain_front l.at_hand l.rest ≡ plain_front l.fn.left l.bytes) × (l.count + length l.rest ≡ length l.bytes)

abbrev pub decreases-loop-rest : goal.decreases-loop-rest
decreases-loop-rest l = length l.rest
