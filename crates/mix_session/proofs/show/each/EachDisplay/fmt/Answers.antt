use Rattle.std.proofs.Common.{refl, true, arith}
use Rattle.std.proofs.lemmas.Grind.{put_two}
use Rattle.mix_session.proofs.ShowLemmas.{flat_map-range_next}
use Rattle.mix_session.proofs.show.each.EachDisplay.fmt.Goals as goal

pub loop-number-preserved : goal.loop-number-preserved
loop-number-preserved g c = record {
  within = omega arith;
  text =
      λ p. let so_far = c.loop-number.invariant.text p in
      put_two _ _ _ _ _ _ _ so_far (c.in_ok-write.ensures so_far.plain (refl {a = true})) (flat_map-range_next (g.K.Numbered.text c.args.self.now.of.now) c.args.self.now.first c.loop-number.number (omega arith));
}
