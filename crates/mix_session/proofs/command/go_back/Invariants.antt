use Rattle.std.proofs.Common.{◌≡◌, ◌-◌, ◌≤◌}
use Rattle.mix_session.specs.Timeline.{back_by}
use Rattle.mix_session.proofs.command.go_back.Given as goal

abbrev pub invariant-loop-taken : goal.invariant-loop-taken
invariant-loop-taken l = record {
  within : l.taken ≤ l.count;
  back : l.journal ≡ back_by l.fn.journal l.taken;
}

abbrev pub decreases-loop-taken : goal.decreases-loop-taken
decreases-loop-taken l = l.count - l.taken
