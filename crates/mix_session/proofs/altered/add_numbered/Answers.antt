-- Those up to the number are the ones that were looked at: none before the first of them differs, and none past their end.
use Rattle.std.proofs.Common.{◌≡◌, ◌+◌, ◌∙◌, ℕ, ap, ◌++◌, ◌∷◌, [], map, min, sym, arith}
use Rattle.std.proofs.lemmas.List.{append-nil}
use Rattle.std.specs.List.{filter, range_with_len}
use Rattle.mix_session.specs.Altered.{part_of, is_altered}
use Rattle.mix_session.specs.declared.altered.Altered.{Altered}
use Rattle.mix_session.proofs.AlteredLemmas.{filter-range}
use Rattle.mix_session.proofs.NamedLemmas.{none-before, none-past}
use Rattle.mix_session.proofs.ShowLemmas.{appended}
use Rattle.mix_session.proofs.altered.add_numbered.Goals as goal

pub loop-number-init : goal.loop-number-init
loop-number-init c =
    sym (append-nil c.args.parts.now.items)
    ∙ ap (λ xs. c.args.parts.now.items ++ xs) (sym (none-before c.args.worlds.before.now c.args.worlds.after.now c.args.kind c.args.numbers c.requires))

pub part-requires : goal.part-requires
part-requires c = omega (arith, c.loop-number-test.true, c.requires.within)

pub loop-number-preserved : goal.loop-number-preserved
loop-number-preserved c =
    let differs = is_altered c.args.worlds.before.now c.args.worlds.after.now in
    let here : min c.loop-number.number c.args.numbers.end ≡ c.loop-number.number = omega (arith, c.loop-number-test.true) in
    let next : min (c.loop-number.number + 1) c.args.numbers.end ≡ c.loop-number.number + 1 = omega (arith, c.loop-number-test.true) in
    rw next (appended _ _ _ _ _ _ (rw here at c.loop-number.invariant)
    (c.in_ok-add.ensures ∙ ap (λ (p : Altered). c.loop-number.parts.items ++ filter differs (p ∷ [])) c.part.ensures)
    (filter-range differs (part_of c.args.kind) c.loop-number.number))

pub returns : goal.returns
unfolding Rattle.mix_session.specs.Altered.numbered
returns c =
    let differs = is_altered c.args.worlds.before.now c.args.worlds.after.now in
    let all : min c.loop-number.number c.args.numbers.end ≡ c.args.numbers.end = omega (arith, c.loop-number-test.false) in
    c.loop-number.invariant ∙ ap (λ (i : ℕ). c.args.parts.now.items ++ filter differs (map (part_of c.args.kind) (range_with_len 0 i))) all
    ∙ ap (λ xs. c.args.parts.now.items ++ xs) (none-past c.args.worlds.before.now c.args.worlds.after.now c.args.kind c.args.numbers c.requires)
