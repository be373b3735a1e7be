-- The last value is that of the header.
use Rattle.std.proofs.Common.{◌≡◌, ◌++◌, ◌∷◌, [], ◌∙◌, List, ℕ, reverse, ap, sym, refl, arith}
use Rattle.std.proofs.lemmas.List.{reverse-reverse}
use Rattle.mix_machine.specs.Prelude.{said, Anchor}
use Rattle.mix_machine.proofs.PackLemmas.{header-value, fits-alone}
use Rattle.mix_machine.proofs.RowLemmas.{last-fits, one-restored}
use Rattle.mix_machine.proofs.world.World.restore_one.Goals as goal

pub restore_before-requires-clause-some : goal.restore_before-requires-clause-some
restore_before-requires-clause-some c =
    let last = header-value _ c.args.units.now.items c.args.header c.args.anchor.now refl (omega (arith, c.requires.most, c.requires.within)) in
    rw last.1 refl

pub restore_before-requires-clause-fits : goal.restore_before-requires-clause-fits
restore_before-requires-clause-fits c =
    let last = header-value _ c.args.units.now.items c.args.header c.args.anchor.now refl (omega (arith, c.requires.most, c.requires.within)) in
    rw last.1 (fits-alone c.args.self.now _ last.0.value refl
    (last-fits _ _ last.0.value c.args.most c.args.self.now last.2 c.requires.most c.requires.within c.requires.fits))

pub returns-clause-restored : goal.returns-clause-restored
returns-clause-restored c =
    let last = header-value _ c.args.units.now.items c.args.header c.args.anchor.now refl (omega (arith, c.requires.most, c.requires.within)) in
    let done = rw last.1 at c.restore_before.ensures in
    let units = c.restore_before.new.units.items in
    let left : units ≡ reverse last.0.before = sym (reverse-reverse units) ∙ ap reverse done.1 in
    let all = last.2 ∙ ap (λ (us : List ℕ). said last.0.anchor us ++ last.0.value ∷ []) (sym left)
    ∙ ap (λ (a : Anchor). said a units ++ last.0.value ∷ []) (sym done.2) in
    one-restored _ _ last.0.value c.args.most c.args.self.now _ all c.requires.most c.requires.within c.requires.fits done.0
