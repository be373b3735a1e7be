use Rattle.std.proofs.Common.{refl, ap, ◌∙◌}
use Rattle.std.specs.Prelude.{ℕ, List, length}
use Rattle.std.proofs.lemmas.List.{length-set}
use Rattle.mixal_asm.specs.Source.{word_in}
use Rattle.mixal_asm.proofs.IndexLemmas.{noted}
use Rattle.mixal_asm.proofs.index.last_words.Goals as goal

pub loop-i-preserved : goal.loop-i-preserved
loop-i-preserved c = record {
  count =
      ap (λ (numbers : List ℕ). length numbers) c.note.ensures ∙ length-set c.loop-i.numbers.items c.index-words-i.result.0 c.loop-i.i
      ∙ c.loop-i.invariant.count;
  last =
      noted word_in (λ word. word.1) c.args.words.now c.loop-i.i c.index-words-i.result c.loop-i.numbers.items c.note.new.numbers.items
      c.index-words-i.result.0 c.loop-i-test.true c.index-words-i.is (λ place. refl) c.note.ensures c.loop-i.invariant.last;
}
