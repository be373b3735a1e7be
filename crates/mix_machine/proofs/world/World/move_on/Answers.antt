use Rattle.std.proofs.Common.{◌≡◌, ◌∙◌, true, false, sym}
use Rattle.mix_machine.specs.units.UnitKind.{has_place}
use Rattle.mix_machine.proofs.WriteLemmas.{wrote-none}
use Rattle.mix_machine.proofs.world.World.move_on.Goals as goal

pub write-requires-clause-room : goal.write-requires-clause-room
write-requires-clause-room c =
    let place : has_place c.args.kind ≡ true = sym c.has_place.ensures ∙ c.if-not-has_place.false in
    rw place at c.requires.room

pub returns-then-not-has_place : goal.returns-then-not-has_place
returns-then-not-has_place c =
    let place : has_place c.args.kind ≡ false = sym c.has_place.ensures ∙ c.if-not-has_place.true in
    rw place (wrote-none c.args.self.now c.args.kept.now)

pub returns : goal.returns
returns c =
    let place : has_place c.args.kind ≡ true = sym c.has_place.ensures ∙ c.if-not-has_place.false in
    rw place c.write.ensures
