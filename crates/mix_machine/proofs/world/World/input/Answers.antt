use Rattle.std.proofs.Common.{◌≡◌, ◌∙◌, ◌∷◌, length, ap, sym, subst}
use Rattle.mix_machine.specs.Prelude.{IsWorld, set, each, busy, from_block, place_after, transfer_end, Until, block_length}
use Rattle.mix_machine.specs.law.Plans.{ready, fits-until-in}
use Rattle.mix_machine.proofs.EachLemmas.{length-each}
use Rattle.mix_machine.proofs.WriteLemmas.{room-first, room-next, room-last}
use Rattle.mix_machine.proofs.TransferLemmas.{transferred, unit-ready, same-words, to-ready, fits-place-after}
use Rattle.mix_machine.proofs.world.World.input.Goals as goal

pub end_at-until-requires : goal.end_at-until-requires
end_at-until-requires c = c.requires.fits.until

pub move_on-requires-clause-few : goal.move_on-requires-clause-few
move_on-requires-clause-few c = c.requires.fits.few

pub move_on-requires-clause-fits : goal.move_on-requires-clause-fits
move_on-requires-clause-fits c = fits-place-after c.args.self.now c.args.t _ c.requires.fits.unit c.requires.fits.block c.requires.kind

pub move_on-requires-clause-room : goal.move_on-requires-clause-room
move_on-requires-clause-room c =
    let w = c.args.self.now in
    let t = c.args.t in
    room-first (place_after c.args.kind t) (busy w t.unit ∷ each (block_length c.args.kind) 0 (from_block w t)) c.args.kept.now c.requires.room

pub write_until-requires-clause-fits : goal.write_until-requires-clause-fits
write_until-requires-clause-fits c =
    rw c.end_at-until.ensures (fits-until-in c.args.t.unit (transfer_end c.args.self.now c.args.t.unit) c.requires.fits.unit c.requires.fits.until)

pub write_until-requires-clause-room : goal.write_until-requires-clause-room
write_until-requires-clause-room c =
    let w = c.args.self.now in
    let t = c.args.t in
    room-next (place_after c.args.kind t) (each (block_length c.args.kind) 0 (from_block w t)) (busy w t.unit) (set (Until t.unit c.end_at-until.result)) w _ c.args.kept.now _
    c.requires.room c.move_on.ensures

pub to_cells-requires-clause-room : goal.to_cells-requires-clause-room
to_cells-requires-clause-room c =
    let w = c.args.self.now in
    let t = c.args.t in
    let words = each (block_length c.args.kind) 0 (from_block w t) in
    let now = each c.block_length.result 0 (from_block c.write_until.new.self t) in
    let same : length now ≡ length words = length-each c.block_length.result 0 _ ∙ c.block_length.ensures.is ∙ sym (length-each (block_length c.args.kind) 0 _) in
    room-last (place_after c.args.kind t) words now (busy w t.unit) (set (Until t.unit c.end_at-until.result)) w _ _ c.args.kept.now _ _
    c.requires.room c.move_on.ensures c.write_until.ensures same

pub to_cells-requires-clause-size : goal.to_cells-requires-clause-size
to_cells-requires-clause-size c =
    let w = c.args.self.now in
    let t = c.args.t in
    let unit = unit-ready w t (subst IsWorld c.self.view_is c.self.invariant) c.requires.fits in
    let same = to-ready w _ _ t _ _ c.requires.kind c.move_on.ensures.state c.end_at-until.ensures c.write_until.ensures.state in
    rw (same, unit.1) (c.block_length.ensures.is ∙ ap block_length c.requires.kind)

pub to_cells-requires-clause-block : goal.to_cells-requires-clause-block
to_cells-requires-clause-block c =
    let w = c.args.self.now in
    let t = c.args.t in
    let unit = unit-ready w t (subst IsWorld c.self.view_is c.self.invariant) c.requires.fits in
    let same = to-ready w _ _ t _ _ c.requires.kind c.move_on.ensures.state c.end_at-until.ensures c.write_until.ensures.state in
    rw (same, unit.0) c.requires.fits.block

pub to_cells-requires-clause-cells : goal.to_cells-requires-clause-cells
to_cells-requires-clause-cells c = rw (c.block_length.ensures.is, c.requires.kind) c.requires.fits.cells

pub returns : goal.returns
returns c =
    let w = c.args.self.now in
    let t = c.args.t in
    let unit = unit-ready w t (subst IsWorld c.self.view_is c.self.invariant) c.requires.fits in
    let same = to-ready w _ _ t _ _ c.requires.kind c.move_on.ensures.state c.end_at-until.ensures c.write_until.ensures.state in
    let words : each c.block_length.result 0 (from_block c.write_until.new.self t) ≡ each (block_length c.args.kind) 0 (from_block w t) =
    rw (same, c.block_length.ensures.is) (same-words (block_length c.args.kind) w (ready w t) t unit.0) in
    transferred w w _ _ _ t.unit _ (place_after c.args.kind t) _ _ _ _ _ _ c.move_on.ensures c.write_until.ensures c.to_cells.ensures c.end_at-until.ensures words
