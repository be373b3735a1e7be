use Rattle.std.proofs.Common.{◌≡◌, ◌++◌, take, Some}
use Rattle.undo_core.specs.Replay.{replay}
use Rattle.mix_machine.specs.Do.{does}
use Rattle.mix_session.specs.Prelude.{transfers_at, IsLast}
use Rattle.mix_session.proofs.conflicts.Known.of.Given as goal

abbrev pub invariant-loop-number : goal.invariant-loop-number
invariant-loop-number l = record {
  led : replay does l.journal.first (take l.number (l.journal.changes ++ l.journal.ahead)) ≡ Some l.world;
  transfers : l.transfers ≡ transfers_at l.journal l.number;
  last : IsLast l.journal l.last l.number;
}
