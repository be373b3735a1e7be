use Rattle.std.proofs.Common.{◌≡◌, IsTrue}
use Rattle.mix_machine.specs.Prelude.{WorldState, view_of, fits, world-set_value, Old, At, Len, Item, Until}
use Rattle.mix_machine.proofs.world.World.set_apart.Goals as goal

fits-here : (v w : WorldState) (o p : Old) → v ≡ w → o ≡ p → IsTrue (fits w o) → IsTrue (fits v p)
fits-here v w o p e g f = rw (e, ← g) f

pub invariant_of-self-in-At : goal.invariant_of-self-in-At
invariant_of-self-in-At c =
    let w = view_of c.self.inside in
    let o = At c.in-At.n c.in-At.place in
    rw c.set_place.ensures (world-set_value w o c.self.invariant (fits-here w _ _ o c.self.view_is c.in-At.is c.requires.fits))

pub invariant_of-self-in-Len : goal.invariant_of-self-in-Len
invariant_of-self-in-Len c =
    let w = view_of c.self.inside in
    let o = Len c.in-Len.n c.in-Len.len in
    rw c.cut.ensures (world-set_value w o c.self.invariant (fits-here w _ _ o c.self.view_is c.in-Len.is c.requires.fits))

pub invariant_of-self-in-Item : goal.invariant_of-self-in-Item
invariant_of-self-in-Item c =
    let w = view_of c.self.inside in
    let o = Item c.in-Item.n c.in-Item.i c.in-Item.j c.in-Item.word in
    rw c.set_item.ensures (world-set_value w o c.self.invariant (fits-here w _ _ o c.self.view_is c.in-Item.is c.requires.fits))

pub invariant_of-self-in-Until : goal.invariant_of-self-in-Until
invariant_of-self-in-Until c =
    let w = view_of c.self.inside in
    let o = Until c.in-Until.n c.in-Until.until in
    rw (c.set_until.ensures, c.number.ensures) (world-set_value w o c.self.invariant (fits-here w _ _ o c.self.view_is c.in-Until.is c.requires.fits))
