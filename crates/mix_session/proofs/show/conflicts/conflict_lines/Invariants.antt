use Rattle.std.proofs.Common.{◌≡◌, ◌+◌, ◌++◌, take, Some}
use Rattle.undo_core.specs.Replay.{replay}
use Rattle.mix_machine.specs.Do.{does}
use Rattle.mix_session.specs.Prelude.{transfers_at, conflict_line_at, texts}
use Rattle.mix_session.proofs.show.conflicts.conflict_lines.Given as goal

abbrev pub invariant-loop-number : goal.invariant-loop-number
invariant-loop-number l = record {
  before : replay does l.journal.first (take l.number (l.journal.changes ++ l.journal.ahead)) ≡ Some l.before;
  after : replay does l.journal.first (take l.number (l.journal.changes ++ l.journal.ahead)) ≡ Some l.after;
  transfers : l.transfers ≡ transfers_at l.journal l.number;
  text : l.text.items ≡ texts (conflict_line_at l.journal) 1 (l.number + 1);
}
