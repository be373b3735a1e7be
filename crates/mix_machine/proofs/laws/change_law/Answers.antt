use Rattle.mix_machine.proofs.BreaksKept.{breaks-kept}
use Rattle.mix_machine.proofs.ClockLemmas.{clock-forward, clock-kept, step-at-cell, world-after}
use Rattle.mix_machine.proofs.laws.change_law.Goals as goal

pub returns : goal.returns
returns c = record { forward = clock-forward; kept = clock-kept; breaks = breaks-kept; place = step-at-cell; world = world-after }
