use Rattle.std.proofs.Common.{◌≡◌, ◌+◌, ◌≤◌, length, drop}
use Rattle.mix_machine.specs.Cells.{with_words, words_of}
use Rattle.mix_machine.proofs.cells.put_words.Given as goal

abbrev pub invariant-loop-i : goal.invariant-loop-i
invariant-loop-i l = record {
  within : l.i ≤ length l.units;
  len : length l.cells ≡ length l.initial.cells;
  put : l.cells ≡ with_words l.initial.cells (l.place + l.i) (words_of (drop l.i l.units));
}

abbrev pub decreases-loop-i : goal.decreases-loop-i
decreases-loop-i l = l.i
