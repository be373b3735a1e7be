use Rattle.std.proofs.Common.{◌≡◌, ◌≤◌, ◌+◌, length, take, reverse, Some}
use Rattle.undo_core.specs.Replay.{replay}
use Rattle.mix_machine.specs.Do.{does}
use Rattle.mix_session.specs.Prelude.{chosen_line_at, texts}
use Rattle.mix_session.proofs.show.last.lines_after.Given as goal

abbrev pub invariant-loop-number : goal.invariant-loop-number
invariant-loop-number l = record {
  of : l.past.of ≡ l.journal;
  left : l.past.left ≡ l.number;
  from : l.first ≤ l.number;
  within : l.number ≤ length l.journal.changes;
  before : replay does l.journal.first (take l.number l.journal.changes) ≡ Some l.before;
  after : replay does l.journal.first (take l.number l.journal.changes) ≡ Some l.after;
  text : l.text.items ≡ reverse (texts (chosen_line_at l.chosen l.journal) (l.number + 1) (length l.journal.changes + 1));
}

abbrev pub decreases-loop-number : goal.decreases-loop-number
decreases-loop-number l = l.number
