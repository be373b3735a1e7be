use Rattle.std.proofs.Common.{◌≡◌, ◌-◌, ◌≤◌, List, true, false}
use Rattle.mix_machine.specs.Prelude.{Old, is_plain_next}
use Rattle.mix_machine.specs.law.Steps.{Steps}
use Rattle.mix_machine.proofs.world.World.run_told.Given as goal

abbrev pub invariant-loop-done : goal.invariant-loop-done
invariant-loop-done l = record {
  within : l.done ≤ l.most;
  did : (olds : List Old) × Steps (λ _. false) l.done l.fn.self l.self olds;
  first : l.done ≡ 0 → is_plain_next l.self ≡ true;
}

abbrev pub decreases-loop-done : goal.decreases-loop-done
decreases-loop-done l = l.most - l.done
