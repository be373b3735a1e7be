use Rattle.std.proofs.Common.{◌≡◌, ◌∙◌, ◌∷◌, length, ap, sym, subst}
use Rattle.mix_machine.specs.Prelude.{IsWorld, transfer_end, set, set_value, busy, each, from_cell, place_after, block_length, has_medium, Until}
use Rattle.mix_machine.specs.law.Plans.{fits-until-in, items-ready}
use Rattle.mix_machine.proofs.EachLemmas.{length-each}
use Rattle.mix_machine.proofs.WriteLemmas.{room-first, room-next, room-last}
use Rattle.mix_machine.proofs.TransferLemmas.{transferred, cells-same, to-ready, fits-place-after}
use Rattle.mix_machine.proofs.world.World.replace.Goals as goal

pub end_at-until-requires : goal.end_at-until-requires
end_at-until-requires c = c.requires.fits.until

pub move_on-requires-clause-few : goal.move_on-requires-clause-few
move_on-requires-clause-few c = c.requires.fits.block (ap (λ k. has_medium k) (sym c.requires.kind) ∙ c.requires.medium)

pub move_on-requires-clause-fits : goal.move_on-requires-clause-fits
move_on-requires-clause-fits c = fits-place-after c.args.self.now c.args.t _ c.requires.fits.unit c.requires.block c.requires.kind

pub move_on-requires-clause-room : goal.move_on-requires-clause-room
move_on-requires-clause-room c =
    let w = c.args.self.now in
    let t = c.args.t in
    room-first (place_after c.args.kind t) (busy w t.unit ∷ each (block_length c.args.kind) 0 (from_cell w t)) c.args.kept.now c.requires.room

pub write_until-requires-clause-fits : goal.write_until-requires-clause-fits
write_until-requires-clause-fits c =
    rw c.end_at-until.ensures (fits-until-in c.args.t.unit (transfer_end c.args.self.now c.args.t.unit) c.requires.fits.unit c.requires.fits.until)

pub write_until-requires-clause-room : goal.write_until-requires-clause-room
write_until-requires-clause-room c =
    let w = c.args.self.now in
    let t = c.args.t in
    room-next (place_after c.args.kind t) (each (block_length c.args.kind) 0 (from_cell w t)) (busy w t.unit) (set (Until t.unit c.end_at-until.result)) w _ c.args.kept.now _
    c.requires.room c.move_on.ensures

pub from_cells-requires-clause-room : goal.from_cells-requires-clause-room
from_cells-requires-clause-room c =
    let w = c.args.self.now in
    let t = c.args.t in
    let words = each (block_length c.args.kind) 0 (from_cell w t) in
    let now = each c.block_length.result 0 (from_cell c.write_until.new.self t) in
    let same : length now ≡ length words = length-each c.block_length.result 0 _ ∙ c.block_length.ensures.is ∙ sym (length-each (block_length c.args.kind) 0 _) in
    room-last (place_after c.args.kind t) words now (busy w t.unit) (set (Until t.unit c.end_at-until.result)) w _ _ c.args.kept.now _ _
    c.requires.room c.move_on.ensures c.write_until.ensures same

pub from_cells-requires-clause-cells : goal.from_cells-requires-clause-cells
from_cells-requires-clause-cells c = rw (c.block_length.ensures.is, c.requires.kind) c.requires.fits.cells

pub from_cells-requires-clause-block : goal.from_cells-requires-clause-block
from_cells-requires-clause-block c =
    let w = c.args.self.now in
    let t = c.args.t in
    let medium = ap (λ k. has_medium k) (sym c.requires.kind) ∙ c.requires.medium in
    let same = to-ready w _ _ t _ _ c.requires.kind c.move_on.ensures.state c.end_at-until.ensures c.write_until.ensures.state in
    λ j l. rw same (
    items-ready w t (subst IsWorld c.self.view_is c.self.invariant) c.requires.fits medium c.requires.block j
    (rw (c.block_length.ensures.is, c.requires.kind) at l)
    )

pub returns : goal.returns
returns c =
    let w = c.args.self.now in
    let t = c.args.t in
    let timed : c.write_until.new.self ≡ set_value c.move_on.new.self (Until t.unit (transfer_end w t.unit)) =
    c.write_until.ensures.state ∙ ap (λ e. set_value c.move_on.new.self (Until t.unit e)) c.end_at-until.ensures in
    let words = cells-same c.block_length.result (block_length c.args.kind) w _ _ c.args.kind t c.move_on.ensures.state timed c.block_length.ensures.is in
    transferred w w _ _ _ t.unit _ (place_after c.args.kind t) _ _ _ _ _ _ c.move_on.ensures c.write_until.ensures c.from_cells.ensures c.end_at-until.ensures words
