use Rattle.std.proofs.Common.{refl, true}
use Rattle.std.proofs.lemmas.Grind.{put_two}
use Rattle.mix_session.specs.ShowUnit.{letters_text}
use Rattle.mix_session.proofs.UnitLemmas.{flat_map-item}
use Rattle.mix_session.proofs.show.words.CharactersDisplay.fmt.Goals as goal

pub loop-word-preserved : goal.loop-word-preserved
loop-word-preserved g c p =
    let so_far = c.loop-word.invariant p in
    put_two _ _ _ _ _ _ _ so_far (c.in_ok-write.ensures.writes so_far.plain (refl {a = true})) (flat_map-item letters_text c.args.self.now.0.now c.loop-word.word-index c.word-item.result c.word-item.result c.loop-word-test.true c.word-item.is)
