use Rattle.std.proofs.Common.{◌≡◌, ◌-◌, ◌<◌, ◌≤◌, ◌++◌, List, true}
use Rattle.mix_machine.specs.Prelude.{cell_of, Old, ends_if}
use Rattle.mix_machine.specs.law.Steps.{Steps, steps_on}
use Rattle.std.specs.Option.{option_map}
use Rattle.mix_machine.proofs.world.World.steps_from.Given as goal

abbrev pub invariant-loop-done : goal.invariant-loop-done
invariant-loop-done l = record {
  within : l.done ≤ l.most;
  did : (olds : List Old) × (l.kept.items ≡ l.fn.kept.items ++ olds) × Steps (ends_if (option_map (λ w. w.now) l.fn.watch)) l.done l.fn.self l.self olds;
  going : 0 < l.done → steps_on (ends_if (option_map (λ w. w.now) l.fn.watch)) l.self ≡ true;
  cell : l.self.loc < 4000;
  word : l.word ≡ cell_of l.self l.self.loc;
}

abbrev pub decreases-loop-done : goal.decreases-loop-done
decreases-loop-done l = l.most - l.done
