use Rattle.std.proofs.Common.{refl, true}
use Rattle.std.proofs.lemmas.Grind.{put_two}
use Rattle.mix_session.proofs.ShowLemmas.{flat_map-next}
use Rattle.mix_session.proofs.show.RegistersDisplay.fmt.Goals as goal

pub loop-register-preserved : goal.loop-register-preserved
loop-register-preserved g c p =
    let so_far = c.loop-register.invariant p in
    put_two _ _ _ _ _ _ _ so_far (c.in_ok-write.ensures.writes so_far.plain (refl {a = true})) (flat_map-next _ _ _ _ c.loop-register-test.true)
