use Rattle.std.proofs.Common.{◌≡◌, length, take}
use Rattle.mixal_asm.specs.Prelude.{word_in, LeadsToLast}
use Rattle.mixal_asm.proofs.index.last_words.Given as goal

abbrev pub invariant-loop-i : goal.invariant-loop-i
invariant-loop-i l = record {
  count : length l.numbers.items ≡ l.places;
  last : LeadsToLast word_in (λ word. word.1) l.words (take l.i l.words) l.numbers.items;
}
