use Rattle.std.proofs.Common.{◌≡◌, ◌+◌, ◌++◌, take, vec_len, vec_capacity}
use Rattle.mix_machine.proofs.units.unit.blocks.push_words.Given as goal

abbrev pub invariant-loop-word : goal.invariant-loop-word
invariant-loop-word l = record {
  items : l.list.items ≡ l.initial.list.items ++ take l.word-index l.words;
  len : vec_len l.list ≡ vec_len l.initial.list + l.word-index;
  capacity : vec_capacity l.list ≡ vec_capacity l.initial.list;
}
