use Rattle.std.proofs.Common.{◌≡◌, drop}
use Rattle.std.specs.Cmp.Lexicographic.{pointwise}
use Rattle.mix_word.specs.Word.{is_same_word}
use Rattle.mix_machine.proofs.units.unit.same.are_same_words.Given as goal

abbrev pub invariant-loop-word : goal.invariant-loop-word
invariant-loop-word l = record {
  rest : pointwise is_same_word (drop l.word-index l.words) l.rest ≡ pointwise is_same_word l.words l.others;
}
