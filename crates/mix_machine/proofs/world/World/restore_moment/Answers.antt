-- The header says the location and the clock.
use Rattle.std.proofs.Common.{◌≡◌, ◌/◌, ◌++◌, ◌∷◌, [], ◌∙◌, ap, sym, refl, arith, Some}
use Rattle.mix_machine.specs.Pack.{said, before_moment, moment_said}
use Rattle.mix_machine.proofs.PutLemmas.{two-put}
use Rattle.mix_machine.proofs.PartLemmas.{at-most}
use Rattle.mix_machine.proofs.RowLemmas.{header-fits, header-restored}
use Rattle.mix_machine.proofs.StepLemmas.{moment-says}
use Rattle.mix_machine.proofs.world.World.restore_moment.Goals as goal

pub go_to-requires-clause-loc : goal.go_to-requires-clause-loc
go_to-requires-clause-loc c =
    let a = c.args.anchor.now in
    let n = c.args.header / 16 in
    let b = before_moment n a in
    let units = c.args.units.now.items in
    let is : said a (units ++ c.args.header ∷ []) ≡ said b units ++ moment_said n a = ap (λ h. said a (units ++ h ∷ [])) c.requires.kind ∙ moment-says n a units in
    let fit = header-fits _ (said b units) (moment_said n a) c.args.most c.args.self.now is (omega (arith, c.if-most-lt2.false)) c.requires.within c.requires.fits in
    rw c.before_moment-to.ensures (two-put c.args.self.now b.loc b.clock fit).loc

pub go_to-requires-clause-clock : goal.go_to-requires-clause-clock
go_to-requires-clause-clock c =
    let a = c.args.anchor.now in
    let n = c.args.header / 16 in
    let b = before_moment n a in
    let units = c.args.units.now.items in
    let is : said a (units ++ c.args.header ∷ []) ≡ said b units ++ moment_said n a = ap (λ h. said a (units ++ h ∷ [])) c.requires.kind ∙ moment-says n a units in
    let fit = header-fits _ (said b units) (moment_said n a) c.args.most c.args.self.now is (omega (arith, c.if-most-lt2.false)) c.requires.within c.requires.fits in
    rw c.before_moment-to.ensures (two-put c.args.self.now b.loc b.clock fit).clock

pub returns-clause-restored : goal.returns-clause-restored
returns-clause-restored c =
    let a = c.args.anchor.now in
    let n = c.args.header / 16 in
    let b = before_moment n a in
    let units = c.args.units.now.items in
    let is : said a (units ++ c.args.header ∷ []) ≡ said b units ++ moment_said n a = ap (λ h. said a (units ++ h ∷ [])) c.requires.kind ∙ moment-says n a units in
    let fit = header-fits _ (said b units) (moment_said n a) c.args.most c.args.self.now is (omega (arith, c.if-most-lt2.false)) c.requires.within c.requires.fits in
    let put = two-put c.args.self.now b.loc b.clock fit in
    rw (c.set.ensures, c.before_moment-to.ensures)
    (header-restored _ (said b units) (moment_said n a) 2 c.args.self.now _ is refl (omega arith) (at-most 2) (put.done ∙ ap Some (sym (rw c.before_moment-to.ensures at c.go_to.ensures))))
