use Rattle.std.proofs.Common.{◌-◌, ◌++◌, ◌∷◌, [], length, ap, sym, subst, refl, ◌∙◌}
use Rattle.mix_machine.specs.Prelude.{IsWorld, unit_at, view_of, transfer_end, set, busy, grow, words_out, place_after, Wrote, has_place, has_medium, fits-until-in, Len, Until}
use Rattle.mix_machine.specs.law.Units.{fits-place-grown}
use Rattle.mix_machine.proofs.TransferLemmas.{transferred, world-grown, with-grown, to-grown, room-grown, blocks-of, length-of}
use Rattle.mix_machine.proofs.WriteLemmas.{wrote-none, joined, room-first, room-next, room-rest}
use Rattle.mix_machine.proofs.world.World.append.Goals as goal

pub end_at-until-requires : goal.end_at-until-requires
end_at-until-requires c = c.requires.fits.until

pub overflow_sub-gap : goal.overflow_sub-gap
overflow_sub-gap c = rw (blocks-of c.args.self.now c.args.t.unit _ _ c.blocks-2.ensures c.unit-unit.ensures) c.requires.block

pub add_blocks-requires-clause-room : goal.add_blocks-requires-clause-room
add_blocks-requires-clause-room c =
    let w = c.args.self.now in
    let t = c.args.t in
    let blocks = blocks-of w t.unit _ _ c.blocks-2.ensures c.unit-unit.ensures in
    let medium = ap (λ k. has_medium k) (sym c.requires.kind) ∙ c.requires.medium in
    room-grown (view_of c.self.inside) w t _ c.self.view_is c.requires.fits medium c.requires.block blocks

pub invariant_of-self-2 : goal.invariant_of-self-2
invariant_of-self-2 c =
    let w = c.args.self.now in
    let t = c.args.t in
    let blocks = blocks-of w t.unit _ _ c.blocks-2.ensures c.unit-unit.ensures in
    let medium = ap (λ k. has_medium k) (sym c.requires.kind) ∙ c.requires.medium in
    world-grown (view_of c.self.inside) w c.add_blocks.new.self t (t.block - c.blocks-2.result) _ c.self.view_is c.self.invariant c.requires.fits
    medium c.requires.block (ap (λ b. t.block - b) blocks) c.in_ok-add_blocks.ensures.added

pub move_on-requires-clause-few : goal.move_on-requires-clause-few
move_on-requires-clause-few c = c.requires.fits.block (ap (λ k. has_medium k) (sym c.requires.kind) ∙ c.requires.medium)

pub move_on-requires-clause-fits : goal.move_on-requires-clause-fits
move_on-requires-clause-fits c =
    let w = c.args.self.now in
    let t = c.args.t in
    let blocks = blocks-of w t.unit _ _ c.blocks-2.ensures c.unit-unit.ensures in
    let size = c.from-size.ensures ∙ c.block_length.ensures.is in
    let grown = to-grown (view_of c.self.inside) w _ t c.args.kind _ _ _ _ c.in_ok-add_blocks.ensures.added c.self.view_is blocks c.from-from.ensures size c.deref.ensures.value in
    let world = subst IsWorld c.self.view_is c.self.invariant in
    λ p. rw grown (
    fits-place-grown w.units t.unit t.block _ world.units c.requires.fits.unit (ap (λ k. has_place k) (sym c.requires.kind) ∙ p) c.requires.block
    )

pub move_on-requires-clause-room : goal.move_on-requires-clause-room
move_on-requires-clause-room c =
    let busy_now = busy c.args.self.now c.args.t.unit in
    let place = place_after c.args.kind c.args.t in
    room-first place (busy_now ∷ []) c.push_reserved.new.self
    (room-rest busy_now (place ++ busy_now ∷ []) c.args.kept.now c.push_reserved.new.self c.requires.room c.push_reserved.ensures.room)

pub write_until-requires-clause-fits : goal.write_until-requires-clause-fits
write_until-requires-clause-fits c =
    rw c.end_at-until.ensures (fits-until-in c.args.t.unit (transfer_end c.args.self.now c.args.t.unit) c.requires.fits.unit c.requires.fits.until)

pub write_until-requires-clause-room : goal.write_until-requires-clause-room
write_until-requires-clause-room c =
    let busy_now = busy c.args.self.now c.args.t.unit in
    let place = place_after c.args.kind c.args.t in
    room-next place [] busy_now (set (Until c.args.t.unit c.end_at-until.result)) _ _ c.push_reserved.new.self c.move_on.new.kept
    (room-rest busy_now (place ++ busy_now ∷ []) c.args.kept.now c.push_reserved.new.self c.requires.room c.push_reserved.ensures.room) c.move_on.ensures

pub returns : goal.returns
returns c =
    let w = c.args.self.now in
    let t = c.args.t in
    let kind = c.args.kind in
    let blocks = blocks-of w t.unit _ _ c.blocks-2.ensures c.unit-unit.ensures in
    let len = length-of w t.unit _ _ c.len-len.ensures c.unit-unit.ensures in
    let size = c.from-size.ensures ∙ c.block_length.ensures.is in
    let grown = to-grown (view_of c.self.inside) w _ t kind _ _ _ _ c.in_ok-add_blocks.ensures.added c.self.view_is blocks c.from-from.ensures size c.deref.ensures.value in
    let first = grow t.unit (t.block - length (unit_at w t.unit).blocks) (words_out kind w t) in
    let after = record (view_of c.self.inside) { units = c.add_blocks.new.self } in
    let grew : Wrote (first ∷ []) w after c.args.kept.now c.push_reserved.new.self = record {
      state = with-grown (view_of c.self.inside) w _ _ c.self.view_is grown;
      kept = c.push_reserved.ensures.items ∙ ap (λ k. c.args.kept.now.items ++ Len t.unit k ∷ []) len;
      room = c.push_reserved.ensures.room;
    } in
    let place = place_after kind t in
    let moved = transferred w after _ _ _ t.unit _ place [] [] _ _ _ _ c.move_on.ensures c.write_until.ensures (wrote-none _ _) c.end_at-until.ensures refl in
    record { wrote = joined (first ∷ []) (place ++ busy w t.unit ∷ []) w after _ c.args.kept.now _ _ grew moved; same = tt; same_kept = tt }
