-- The header says the location and the clock, and with the word before it the cell.
use Rattle.std.proofs.Common.{◌∙◌, ap, sym, refl, arith, Some}
use Rattle.mix_word.specs.Word.{WordValue}
use Rattle.mix_machine.specs.Prelude.{WorldState, set_value}
use Rattle.mix_machine.specs.declared.old.Old.TheVariants as old
use Rattle.mix_machine.specs.Pack.{said, before_store, store_said}
use Rattle.mix_machine.proofs.PutLemmas.{after_two}
use Rattle.mix_machine.proofs.PartLemmas.{at-most}
use Rattle.mix_machine.proofs.RowLemmas.{header-restored}
use Rattle.mix_machine.proofs.StoreLemmas.{store-back}
use Rattle.mix_machine.proofs.world.World.restore_store.Goals as goal

pub go_to-requires-clause-loc : goal.go_to-requires-clause-loc
go_to-requires-clause-loc c =
    let said_is = c.in-Some.ensures.store in
    let back = store-back _ c.in-Some.place c.in-Some-pop.bits c.args.most c.args.anchor.now _ c.pop.new.self.items c.args.self.now c.requires.kind
    said_is.0 said_is.1 said_is.2 c.in-Some-pop.ensures.items c.in-Some.ensures.within.1 c.requires.within c.requires.fits in
    rw c.before_store-to.ensures back.1.two.loc

pub go_to-requires-clause-clock : goal.go_to-requires-clause-clock
go_to-requires-clause-clock c =
    let said_is = c.in-Some.ensures.store in
    let back = store-back _ c.in-Some.place c.in-Some-pop.bits c.args.most c.args.anchor.now _ c.pop.new.self.items c.args.self.now c.requires.kind
    said_is.0 said_is.1 said_is.2 c.in-Some-pop.ensures.items c.in-Some.ensures.within.1 c.requires.within c.requires.fits in
    rw c.before_store-to.ensures back.1.two.clock

pub returns-in-Some-pop-clause-restored : goal.returns-in-Some-pop-clause-restored
returns-in-Some-pop-clause-restored c =
    let a = c.args.anchor.now in
    let b = before_store a in
    let place = c.in-Some.place in
    let said_is = c.in-Some.ensures.store in
    let back = store-back _ place c.in-Some-pop.bits c.args.most a _ c.pop.new.self.items c.args.self.now c.requires.kind
    said_is.0 said_is.1 said_is.2 c.in-Some-pop.ensures.items c.in-Some.ensures.within.1 c.requires.within c.requires.fits in
    let state = c.set_value.ensures ∙ ap (λ (s : WorldState). set_value s (old.Cell place c.long.result)) (rw c.before_store-to.ensures at c.go_to.ensures)
    ∙ ap (λ (v : WordValue). set_value (after_two c.args.self.now b.loc b.clock) (old.Cell place v)) c.long.ensures in
    rw (c.set.ensures, c.before_store-to.ensures)
    (header-restored _ (said b c.pop.new.self.items) (store_said place c.in-Some-pop.bits a) 3 c.args.self.now _ back.0 refl (omega arith) (at-most 3) (back.1.done ∙ ap Some (sym state)))
