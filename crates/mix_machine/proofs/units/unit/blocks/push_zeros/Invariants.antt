use Rattle.std.proofs.Common.{◌≡◌, ◌+◌, ◌++◌, replicate, vec_len, vec_capacity}
use Rattle.mix_word.specs.Word.{zero_word}
use Rattle.mix_machine.proofs.units.unit.blocks.push_zeros.Given as goal

abbrev pub invariant-loop-word : goal.invariant-loop-word
invariant-loop-word l = record {
  items : l.list.items ≡ l.initial.list.items ++ replicate l._word zero_word;
  len : vec_len l.list ≡ vec_len l.initial.list + l._word;
  capacity : vec_capacity l.list ≡ vec_capacity l.initial.list;
}
