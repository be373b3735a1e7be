use Rattle.std.proofs.Common.{◌++◌, ◌∷◌, [], ap, sym, refl, ◌∙◌}
use Rattle.mix_machine.specs.Prelude.{view_of, busy, print, words_out, Wrote, has_medium, row_of, Len, transfer_end, fits-until-in}
use Rattle.mix_machine.proofs.TransferLemmas.{transferred, world-printed, with-grown, to-printed, rows-room, length-of}
use Rattle.mix_machine.proofs.WriteLemmas.{wrote-none, room-rest}
use Rattle.mix_machine.proofs.world.World.print.Goals as goal

pub end_at-until-requires : goal.end_at-until-requires
end_at-until-requires c = c.requires.fits.until

pub add_words-requires-clause-room : goal.add_words-requires-clause-room
add_words-requires-clause-room c =
    let medium = ap (λ k. has_medium k) (sym c.requires.kind) ∙ c.requires.medium in
    rows-room (view_of c.self.inside) c.args.self.now c.args.t.unit c.self.view_is (c.requires.fits.row medium)

pub invariant_of-self-2 : goal.invariant_of-self-2
invariant_of-self-2 c =
    world-printed (view_of c.self.inside) c.args.self.now c.add_words.new.self c.args.t.unit _ c.self.view_is c.self.invariant c.requires.fits.unit
    (c.requires.fits.row (ap (λ k. has_medium k) (sym c.requires.kind) ∙ c.requires.medium)) c.in_ok-add_words.ensures.added

pub write_until-requires-clause-fits : goal.write_until-requires-clause-fits
write_until-requires-clause-fits c =
    rw c.end_at-until.ensures (fits-until-in c.args.t.unit (transfer_end c.args.self.now c.args.t.unit) c.requires.fits.unit c.requires.fits.until)

pub write_until-requires-clause-room : goal.write_until-requires-clause-room
write_until-requires-clause-room c =
    let busy_now = busy c.args.self.now c.args.t.unit in
    room-rest busy_now (busy_now ∷ []) c.args.kept.now c.push_reserved.new.self c.requires.room c.push_reserved.ensures.room

pub returns : goal.returns
returns c =
    let w = c.args.self.now in
    let t = c.args.t in
    let len = length-of w t.unit _ _ c.len-len.ensures c.unit.ensures in
    let size = c.from-size.ensures ∙ c.block_length.ensures.is in
    let printed = to-printed (view_of c.self.inside) w _ t c.args.kind _ _ _ c.in_ok-add_words.ensures.added c.self.view_is c.from-from.ensures size c.deref.ensures.value in
    let first = print t.unit (row_of (words_out c.args.kind w t)) in
    let after = record (view_of c.self.inside) { units = c.add_words.new.self } in
    let grew : Wrote (first ∷ []) w after c.args.kept.now c.push_reserved.new.self = record {
      state = with-grown (view_of c.self.inside) w _ _ c.self.view_is printed;
      kept = c.push_reserved.ensures.items ∙ ap (λ k. c.args.kept.now.items ++ Len t.unit k ∷ []) len;
      room = c.push_reserved.ensures.room;
    } in
    record { wrote = transferred w w after _ _ t.unit _ (first ∷ []) [] [] c.args.kept.now _ _ _ grew c.write_until.ensures (wrote-none _ _) c.end_at-until.ensures refl; same = tt; same_kept = tt }
