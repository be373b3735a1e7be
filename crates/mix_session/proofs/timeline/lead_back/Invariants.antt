use Rattle.std.proofs.Common.{◌≡◌, ◌≤◌, length, take, Some}
use Rattle.undo_core.specs.Replay.{replay}
use Rattle.mix_machine.specs.Do.{does}
use Rattle.mix_session.proofs.timeline.lead_back.Given as goal

abbrev pub invariant-loop-at : goal.invariant-loop-at
invariant-loop-at l = record {
  of : l.past.of ≡ l.journal;
  left : l.past.left ≡ l.at;
  from : l.number ≤ l.at;
  within : l.at ≤ length l.journal.changes;
  world : replay does l.journal.first (take l.at l.journal.changes) ≡ Some l.world;
}

abbrev pub decreases-loop-at : goal.decreases-loop-at
decreases-loop-at l = l.at
