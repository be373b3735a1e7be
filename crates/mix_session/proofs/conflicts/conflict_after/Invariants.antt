use Rattle.std.proofs.Common.{◌≡◌, ◌++◌, take, Some}
use Rattle.undo_core.specs.Replay.{replay}
use Rattle.mix_machine.specs.Do.{does}
use Rattle.mix_session.specs.Conflicts.{transfers_at}
use Rattle.mix_session.proofs.conflicts.conflict_after.Given as goal

abbrev pub invariant-loop-index : goal.invariant-loop-index
invariant-loop-index l = record {
  led : replay does l.journal.first (take l.index (l.journal.changes ++ l.journal.ahead)) ≡ Some l.world;
  transfers : l.transfers ≡ transfers_at l.journal l.index;
}
