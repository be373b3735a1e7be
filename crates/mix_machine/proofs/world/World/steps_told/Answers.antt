use Rattle.std.proofs.Common.{◌≡◌, ◌<◌, subst, arith}
use Rattle.mix_machine.specs.Prelude.{WorldState, ends_if}
use Rattle.std.specs.Option.{option_map}
use Rattle.mix_machine.proofs.StepsLemmas.{none-there}
use Rattle.mix_machine.proofs.world.World.steps_told.Goals as goal

pub returns-in-None : goal.returns-in-None
returns-in-None c =
    let none : c.self.inside.loc < 4000 → ⊥ = λ low. (let no = c.in-None.ensures.valid.1 low in cc) in
    let most = c.self.invariant.loc in
    let past : c.self.inside.loc ≡ 4000 = omega (arith, none, most) in
    none-there (ends_if (option_map (λ w. w.now) c.args.watch)) c.args.most c.args.self.now c.args.kept.now.items _ c.told.ensures c.requires (subst (λ (w : WorldState). w.loc ≡ 4000) c.self.view_is past)
