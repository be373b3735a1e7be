use Rattle.std.proofs.Common.{◌≡◌, ◌≤◌, ◌+◌, length, vec_len}
use Rattle.mix_lines.specs.Lines.{words}
use Rattle.mix_machine.specs.units.deck.Block.{deck_words}
use Rattle.mix_machine.specs.units.deck.Deck.{with_words}
use Rattle.mix_machine.proofs.units.deck.reader.unit_line.push_words.Given as goal

abbrev pub invariant-loop-word : goal.invariant-loop-word
invariant-loop-word l = record {
  read : with_words l.list.items (deck_words l.words) ≡ with_words l.initial.list.items (deck_words (words l.text));
  len : vec_len l.list + length l.words ≤ vec_len l.initial.list + length (words l.text);
}

abbrev pub decreases-loop-word : goal.decreases-loop-word
decreases-loop-word l = length l.words
