use Rattle.std.proofs.Common.{◌≡◌, ◌+◌, ◌-◌, ◌*◌, ◌<◌, ◌∙◌, ℕ, List, ap, arith, drop, length, refl, subst, sym, take, vec_items}
use Rattle.std.proofs.lemmas.Bool.Decides.{nat_tests}
use Rattle.std.proofs.lemmas.List.{take_all}
use Rattle.mix_machine.specs.Prelude.{IsRow, words_of, header_of, said}
use Rattle.mix_machine.specs.declared.pack.kind.Kind.TheVariants as kind
use Rattle.mix_machine.proofs.RowLemmas.{row-appended}
use Rattle.mix_machine.proofs.pack.row.append_row.Goals as goal

pub returns-clause-said : goal.returns-clause-said
returns-clause-said c =
    let units = c.args.units.now.items in
    let words = c.args.words.now in
    let now = c.loop-i.list.items in
    let some : 0 < length words = grind (arith, nat_tests) in
    let start : c.replace-list.result.items ≡ units = ap vec_items c.replace-list.ensures.value in
    let before : take (length units) now ≡ units = subst (λ (us : List ℕ). take (length us) now ≡ us) start c.loop-i.invariant.before in
    let after : words_of (drop (length units) now) ≡ words =
    ap (λ (us : List ℕ). words_of (drop (length us) now)) (sym start) ∙ c.loop-i.invariant.words
    ∙ take_all c.loop-i.i words (omega (arith, c.loop-i-test.false)) in
    let row : IsRow c.header.result c.args.place (length words) = record {
      some = some;
      is = c.header.ensures ∙ ap (λ p. header_of kind.Row (length words * 4096 + (p + length words - 1))) c.from.ensures;
      cells = c.requires.cells;
    } in
    λ a. ap (said a) c.push_reserved-2.ensures.items ∙ row-appended units now words c.header.result c.args.place (length words) a row refl before after
