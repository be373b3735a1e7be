use Rattle.std.proofs.Common.{◌≡◌, length, take, map}
use Rattle.mix_word.specs.Word.{plus}
use Rattle.mix_machine.proofs.units.row.Row.of.Given as goal

abbrev pub invariant-loop-word : goal.invariant-loop-word
invariant-loop-word l = record {
  len : l.len ≡ l.word-index;
  room : length l.row ≡ 24;
  words : take l.word-index l.row ≡ map (λ w. plus w.magnitude) (take l.word-index l.words);
}
