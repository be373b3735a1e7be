use Rattle.std.proofs.Common.{refl, true, arith}
use Rattle.std.proofs.lemmas.Grind.{put_two}
use Rattle.mix_session.proofs.UnitLemmas.{block_words-next}
use Rattle.mix_session.proofs.show.words.BlockLinesDisplay.fmt.Goals as goal

pub loop-j-preserved : goal.loop-j-preserved
loop-j-preserved g c = record {
  within = omega arith;
  text =
      λ p. let so_far = c.loop-j.invariant.text p in
      put_two _ _ _ _ _ _ _ so_far (c.in_ok-write.ensures.writes so_far.plain (refl {a = true})) (block_words-next _ _ _ _ c.word_at.ensures c.text_after-after.ensures);
}
