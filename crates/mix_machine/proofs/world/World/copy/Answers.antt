use Rattle.std.proofs.Common.{◌≡◌, ◌+◌, ◌-◌, ◌∙◌, List, ap, drop, length, refl, subst, sym, take}
use Rattle.std.proofs.lemmas.List.{with_items_is}
use Rattle.std.specs.Vec.{with_items}
use Rattle.mix_word.specs.Word.{WordValue}
use Rattle.mix_machine.specs.Prelude.{cell_values, with_copies, view_of, IsWorld}
use Rattle.mix_machine.proofs.CopyLemmas.{copy-room, copy-wrote}
use Rattle.mix_machine.proofs.world.World.copy.Goals as goal

pub append_reserved-requires : goal.append_reserved-requires
append_reserved-requires c =
    copy-room c.args.count c.args.from c.args.to c.from-count.result c.from-at.result c.args.self.now c.deref.result.now c.of.result c.args.kept.now
    c.requires.room c.from-count.ensures c.of.ensures

pub returns : goal.returns
returns c =
    let w = c.args.self.now in
    let to = c.args.to in
    let at = c.from-at.result in
    let count = c.from-count.result in
    let cells = c.self.inside.cells in
    let now = c.copy_words.new.cells in
    let values = c.of.ensures ∙ ap (λ (cs : List WordValue). cell_values to (take (at + count - at) (drop at cs))) c.deref.ensures.value in
    let len = c.copy_words.ensures.len ∙ ap length c.deref_mut.ensures.value ∙ sym cells.ok.0 in
    let copied : (with_items cells now).items ≡ with_copies count c.from.result at cells.items =
    with_items_is cells now len ∙ c.copy_words.ensures.is ∙ ap (with_copies count c.from.result at) c.deref_mut.ensures.value in
    copy-wrote c.args.count c.args.from to count c.from.result at w (view_of c.self.inside) _ cells.items (with_items cells now).items c.of.result c.args.kept.now
    c.append_reserved.new.self c.requires.into (subst IsWorld c.self.view_is c.self.invariant) c.from-count.ensures c.from.ensures c.from-at.ensures
    c.self.view_is refl values c.append_reserved.ensures.items c.append_reserved.ensures.room copied refl
