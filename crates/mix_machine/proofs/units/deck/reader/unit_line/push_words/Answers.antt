use Rattle.std.proofs.Common.{◌∙◌, length, ap, sym, arith}
use Rattle.mix_machine.specs.units.deck.Block.{deck_words}
use Rattle.mix_machine.specs.units.deck.Deck.{with_words}
use Rattle.mix_machine.proofs.DeckLemmas.{words-more}
use Rattle.mix_machine.proofs.units.deck.reader.unit_line.push_words.Goals as goal

pub loop-word-preserved : goal.loop-word-preserved
loop-word-preserved c =
    let list = c.loop-word.list.items in
    let first = c.in-Some.ensures in
    let count = ap length first in
    record {
      read = rw c.in_ok-push-in-Some-deck_word.ensures.items
          (words-more list c.in-Some.word.now c.next.new.self c.in-Some-deck_word.word (sym c.in-Some-deck_word.ensures)
          ∙ ap (λ ws. with_words list (deck_words ws)) (sym first) ∙ c.loop-word.invariant.read);
      len = omega (arith, c.in_ok-push-in-Some-deck_word.ensures.len, c.loop-word.invariant.len, count);
    }
