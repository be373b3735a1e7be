use Rattle.std.proofs.Common.{◌≡◌, ◌-◌, ◌≤◌, ◌∙◌, ℕ, List, ap, arith, drop, length, sym, take}
use Rattle.std.proofs.lemmas.List.{take_rest, with_items_is}
use Rattle.std.specs.Vec.{with_items}
use Rattle.mix_word.specs.Word.{WordValue}
use Rattle.mix_machine.specs.Prelude.{with_words, words_of, view_of, WorldState}
use Rattle.mix_machine.proofs.CopyLemmas.{same-cells}
use Rattle.mix_machine.proofs.RowLemmas.{row-restored}
use Rattle.mix_machine.proofs.world.World.restore_row.Goals as goal

pub returns : goal.returns
returns c =
    let w = c.args.self.now in
    let units = c.args.units.now.items in
    let place = c.args.place in
    let left = c.len.result - c.args.count in
    let n = length units - c.args.count in
    let cells = c.self.inside.cells in
    let now = c.put_words.new.cells in
    let at : left ≡ n = omega (arith, c.len.ensures, c.args.units.now.ok.0) in
    let within : c.args.count ≤ length units = omega (arith, c.requires.units, c.args.units.now.ok.0) in
    let rest = take_rest c.deref.result.now left ∙ ap (drop left) c.deref.ensures.value ∙ ap (λ k. drop k units) at in
    let words : now ≡ with_words cells.items place (words_of (drop n units)) =
    c.put_words.ensures.is ∙ ap (λ (us : List ℕ). with_words c.deref_mut.result.now place (words_of us)) rest
    ∙ ap (λ (cs : List WordValue). with_words cs place (words_of (drop n units))) c.deref_mut.ensures.value in
    let len = c.put_words.ensures.len ∙ ap length c.deref_mut.ensures.value ∙ sym cells.ok.0 in
    let same = ap (λ (s : WorldState). s.cells) c.self.view_is in
    let all = with_items_is cells now len ∙ words ∙ ap (λ (cs : List WordValue). with_words cs place (words_of (drop n units))) same in
    row-restored c.args.header place c.args.count c.args.anchor units c.truncate.new.self.items w _ c.requires.row within
    (c.truncate.ensures.items ∙ ap (λ k. take k units) at)
    (same-cells (view_of c.self.inside) w (with_items cells now).items (with_words w.cells place (words_of (drop n units))) c.self.view_is all)
