use Rattle.std.proofs.Common.{◌≡◌, nat_lt, length}
use Rattle.mix_lines.specs.Lines.{words}
use Rattle.mix_machine.proofs.units.deck.block.has_more_words.Given as goal

abbrev pub invariant-loop-words : goal.invariant-loop-words
invariant-loop-words l = nat_lt l.room (length l.words) ≡ nat_lt l.most (length (words l.text))

abbrev pub decreases-loop-words : goal.decreases-loop-words
decreases-loop-words l = length l.words
