-- The header says the register, the location and the clock.
use Rattle.std.proofs.Common.{◌≡◌, ◌/◌, ◌%◌, ◌^◌, nat_eq, true, ◌++◌, ◌∷◌, [], ◌∙◌, ap, sym, refl, arith, Some}
use Rattle.mix_word.specs.Word.{WordValue}
use Rattle.mix_machine.specs.Prelude.{WorldState, set_value}
use Rattle.mix_machine.specs.declared.old.Old.TheVariants as old
use Rattle.mix_machine.specs.Pack.{said, short_word, wide_bits, before_short, short_said}
use Rattle.mix_machine.proofs.PutLemmas.{three-put}
use Rattle.mix_machine.proofs.PartLemmas.{at-most}
use Rattle.mix_machine.proofs.RowLemmas.{header-fits, header-restored}
use Rattle.mix_machine.proofs.StepLemmas.{short-says}
use Rattle.mix_machine.proofs.world.World.restore_short.Goals as goal

pub go_to-requires-clause-loc : goal.go_to-requires-clause-loc
go_to-requires-clause-loc c =
    let a = c.args.anchor.now in
    let n = c.args.header / 16 in
    let b = before_short n a in
    let units = c.args.units.now.items in
    let test : nat_eq (n / 16 % 2) 0 ≡ true = rw (c.takes_three.ensures.bit c.if-not-takes_three.false) refl in
    let more = c.takes_three.ensures.most c.if-not-takes_three.false in
    let is : said a (units ++ c.args.header ∷ []) ≡ said b units ++ short_said c.short_register-reg.result n a = ap (λ h. said a (units ++ h ∷ [])) c.requires.kind ∙ short-says n c.short_register-reg.result a test c.short_register-reg.ensures units in
    let fit = header-fits _ (said b units) (short_said c.short_register-reg.result n a) c.args.most c.args.self.now is (omega (arith, more)) c.requires.within c.requires.fits in
    let put = three-put c.args.self.now (old.Reg c.short_register-reg.result (short_word (wide_bits (2 ^ 22) (n / 32)))) b.loc b.clock fit in
    rw c.before_short-to.ensures put.two.loc

pub go_to-requires-clause-clock : goal.go_to-requires-clause-clock
go_to-requires-clause-clock c =
    let a = c.args.anchor.now in
    let n = c.args.header / 16 in
    let b = before_short n a in
    let units = c.args.units.now.items in
    let test : nat_eq (n / 16 % 2) 0 ≡ true = rw (c.takes_three.ensures.bit c.if-not-takes_three.false) refl in
    let more = c.takes_three.ensures.most c.if-not-takes_three.false in
    let is : said a (units ++ c.args.header ∷ []) ≡ said b units ++ short_said c.short_register-reg.result n a = ap (λ h. said a (units ++ h ∷ [])) c.requires.kind ∙ short-says n c.short_register-reg.result a test c.short_register-reg.ensures units in
    let fit = header-fits _ (said b units) (short_said c.short_register-reg.result n a) c.args.most c.args.self.now is (omega (arith, more)) c.requires.within c.requires.fits in
    let put = three-put c.args.self.now (old.Reg c.short_register-reg.result (short_word (wide_bits (2 ^ 22) (n / 32)))) b.loc b.clock fit in
    rw c.before_short-to.ensures put.two.clock

pub set_value-requires : goal.set_value-requires
set_value-requires c =
    let a = c.args.anchor.now in
    let n = c.args.header / 16 in
    let b = before_short n a in
    let units = c.args.units.now.items in
    let test : nat_eq (n / 16 % 2) 0 ≡ true = rw (c.takes_three.ensures.bit c.if-not-takes_three.false) refl in
    let more = c.takes_three.ensures.most c.if-not-takes_three.false in
    let is : said a (units ++ c.args.header ∷ []) ≡ said b units ++ short_said c.short_register-reg.result n a = ap (λ h. said a (units ++ h ∷ [])) c.requires.kind ∙ short-says n c.short_register-reg.result a test c.short_register-reg.ensures units in
    let fit = header-fits _ (said b units) (short_said c.short_register-reg.result n a) c.args.most c.args.self.now is (omega (arith, more)) c.requires.within c.requires.fits in
    let put = three-put c.args.self.now (old.Reg c.short_register-reg.result (short_word (wide_bits (2 ^ 22) (n / 32)))) b.loc b.clock fit in
    rw (c.short-word.ensures, c.wide_bits.ensures.is) put.value

pub returns-clause-restored : goal.returns-clause-restored
returns-clause-restored c =
    let a = c.args.anchor.now in
    let n = c.args.header / 16 in
    let b = before_short n a in
    let units = c.args.units.now.items in
    let test : nat_eq (n / 16 % 2) 0 ≡ true = rw (c.takes_three.ensures.bit c.if-not-takes_three.false) refl in
    let more = c.takes_three.ensures.most c.if-not-takes_three.false in
    let is : said a (units ++ c.args.header ∷ []) ≡ said b units ++ short_said c.short_register-reg.result n a = ap (λ h. said a (units ++ h ∷ [])) c.requires.kind ∙ short-says n c.short_register-reg.result a test c.short_register-reg.ensures units in
    let fit = header-fits _ (said b units) (short_said c.short_register-reg.result n a) c.args.most c.args.self.now is (omega (arith, more)) c.requires.within c.requires.fits in
    let put = three-put c.args.self.now (old.Reg c.short_register-reg.result (short_word (wide_bits (2 ^ 22) (n / 32)))) b.loc b.clock fit in
    let held = c.short-word.ensures ∙ ap short_word c.wide_bits.ensures.is in
    let there = set_value (set_value c.args.self.now (old.Clock b.clock)) (old.Loc b.loc) in
    let state = c.set_value.ensures ∙ ap (λ (s : WorldState). set_value s (old.Reg c.short_register-reg.result c.short-word.result)) (rw c.before_short-to.ensures at c.go_to.ensures)
    ∙ ap (λ (v : WordValue). set_value there (old.Reg c.short_register-reg.result v)) held in
    rw (c.set.ensures, c.before_short-to.ensures) (header-restored _ (said b units) (short_said c.short_register-reg.result n a) 3 c.args.self.now _ is refl (omega arith) (at-most 3) (put.done ∙ ap Some (sym state)))
