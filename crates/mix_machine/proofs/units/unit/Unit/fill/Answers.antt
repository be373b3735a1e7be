use Rattle.std.proofs.Common.{◌≡◌, ◌%◌, ◌/◌, ◌∙◌, length, refl, ap, sym, subst, arith}
use Rattle.std.proofs.lemmas.Nat.{div-add-mod'}
use Rattle.mix_machine.specs.Prelude.{block_length, UnitState, IsUnit, blocks_in, filled, unit_of_fields}
use Rattle.mix_machine.specs.units.Keep.{is-filled}
use Rattle.mix_machine.proofs.units.unit.Unit.fill.Goals as goal

pub invariant_of-self : goal.invariant_of-self
invariant_of-self c =
    let u = c.self.inside in
    let s = c.args.self.now in
    let items = c.args.words.items in
    let size = block_length u.kind in
    let count : c.len.result / c.from-length.result ≡ length items / size =
    rw (c.len.ensures, c.args.words.ok.0, c.from-length.ensures, c.block_length.ensures.is) refl in
    let view =
    ap (λ n. record (unit_of_fields u) { place = 0; blocks = blocks_in n size items }) count ∙ ap (λ (t : UnitState). filled t items) c.self.view_is in
    let is_unit = subst IsUnit c.self.view_is c.self.invariant.is_unit in
    let kind : u.kind ≡ s.kind = ap (λ (t : UnitState). t.kind) c.self.view_is in
    let whole : length items % size ≡ 0 = rw kind c.requires.whole in
    let all = div-add-mod' (length items) size in
    record {
      is_unit = subst IsUnit (sym view) (is-filled s items is_unit c.requires.room);
      words = rw count (omega arith);
    }
