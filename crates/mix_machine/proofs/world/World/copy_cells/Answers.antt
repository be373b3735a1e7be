use Rattle.std.proofs.Common.{◌≡◌, ◌∙◌, ap, length, refl, sym}
use Rattle.std.proofs.lemmas.List.{with_items_is}
use Rattle.std.specs.Vec.{with_items}
use Rattle.mix_machine.specs.Prelude.{with_copies, view_of}
use Rattle.mix_machine.proofs.CopyLemmas.{copy-stands}
use Rattle.mix_machine.proofs.world.World.copy_cells.Goals as goal

pub returns : goal.returns
returns c =
    let at = c.from-3.result in
    let count = c.from.result in
    let cells = c.self.inside.cells in
    let now = c.copy_words.new.cells in
    let len = c.copy_words.ensures.len ∙ ap length c.deref_mut.ensures.value ∙ sym cells.ok.0 in
    let copied : (with_items cells now).items ≡ with_copies count c.from-2.result at cells.items =
    with_items_is cells now len ∙ c.copy_words.ensures.is ∙ ap (with_copies count c.from-2.result at) c.deref_mut.ensures.value in
    copy-stands c.args.count c.args.from c.args.to count c.from-2.result at c.args.self.now (view_of c.self.inside) _ cells.items (with_items cells now).items
    c.from.ensures c.from-2.ensures c.from-3.ensures c.self.view_is refl copied refl
