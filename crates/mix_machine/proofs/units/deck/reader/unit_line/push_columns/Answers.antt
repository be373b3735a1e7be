use Rattle.std.proofs.Common.{◌≡◌, ◌+◌, ◌-◌, ◌*◌, ◌++◌, ◌∷◌, [], ◌∙◌, ap, append_assoc, arith}
use Rattle.mix_machine.specs.units.deck.Block.{word_at, words_from}
use Rattle.mix_machine.proofs.DeckLemmas.{columns-more}
use Rattle.mix_machine.proofs.units.deck.reader.unit_line.push_columns.Goals as goal

pub loop-i-preserved : goal.loop-i-preserved
loop-i-preserved c =
    let list = c.loop-i.list.items in
    let i = c.loop-i.i in
    let text = c.args.text.now in
    let word : c.word_at.result ≡ word_at text (5 * i) = c.word_at.ensures ∙ ap (λ n. word_at text (5 * n)) c.from.ensures in
    record {
      read = rw (c.in_ok-push.ensures.items, word)
          (append_assoc list (word_at text (5 * i) ∷ []) (words_from (c.args.count - (i + 1)) (5 * (i + 1)) text)
          ∙ ap (λ ws. list ++ ws) (columns-more c.args.count i text c.loop-i-test.true) ∙ c.loop-i.invariant.read);
      len = omega (arith, c.in_ok-push.ensures.len, c.loop-i.invariant.len);
    }
