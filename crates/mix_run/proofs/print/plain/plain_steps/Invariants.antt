use Rattle.std.proofs.Common.{◌≡◌, ◌≤◌, ◌+◌, ◌-◌}
use Rattle.mix_machine.specs.Transfers.{last_end}
use Rattle.mix_run.specs.Print.{printed}
use Rattle.mix_run.proofs.print.plain.plain_steps.Given as goal

-- the run of the steps that are left is the run of all
abbrev pub invariant-loop-left : goal.invariant-loop-left
invariant-loop-left l = record {
  within : l.left ≤ l.fn.most;
  same : printed l.fn.options (l.fn.options.steps - l.fn.most + 1) l.fn.most l.watch.transfers l.fn.world
      ≡ printed l.fn.options (l.fn.options.steps - l.left + 1) l.left l.watch.transfers l.world;
  over : last_end l.watch.transfers ≤ l.world.clock;
  units : l.world.units ≡ l.fn.world.units;
}

abbrev pub decreases-loop-left : goal.decreases-loop-left
decreases-loop-left l = l.left
