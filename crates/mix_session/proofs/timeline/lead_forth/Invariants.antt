use Rattle.std.proofs.Common.{◌≤◌, ◌-◌}
use Rattle.mix_session.specs.Moments.{IsMoment}
use Rattle.mix_session.proofs.timeline.lead_forth.Given as goal

abbrev pub invariant-loop-at : goal.invariant-loop-at
invariant-loop-at l = record {
  within : l.at ≤ l.number;
  moment : IsMoment l.journal l.at l.world;
}

abbrev pub decreases-loop-at : goal.decreases-loop-at
decreases-loop-at l = l.number - l.at
