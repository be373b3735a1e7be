use Rattle.std.proofs.Common.{◌≡◌, ◌+◌, vec_capacity, take, drop, length}
use Rattle.mix_machine.specs.Cells.{words_of}
use Rattle.mix_machine.proofs.pack.row.append_row.Given as goal

abbrev pub invariant-loop-i : goal.invariant-loop-i
invariant-loop-i l = record {
  len : length l.list.items ≡ length l.initial.list.items + l.i;
  capacity : vec_capacity l.list ≡ vec_capacity l.initial.list;
  before : take (length l.initial.list.items) l.list.items ≡ l.initial.list.items;
  words : words_of (drop (length l.initial.list.items) l.list.items) ≡ take l.i l.words;
}
