use Rattle.std.proofs.Common.{◌∙◌}
use Rattle.mix_machine.specs.units.Unit.{UnitState, with_word}
use Rattle.mix_machine.specs.units.Keep.{keep-set_item}
use Rattle.mix_machine.proofs.UnitsLemmas.{keep-written, unit-read, unit-written, item-block, item-word}
use Rattle.mix_machine.proofs.units.Units.set_item.Goals as goal

pub invariant_of-self : goal.invariant_of-self
invariant_of-self c =
    let us = c.self.inside.list.items in
    let kept = keep-set_item us c.args.n c.args.i c.args.j c.args.word c.self.invariant (rw c.self.view_is c.requires) in
    keep-written us c.args.n _ _ _ (λ (u : UnitState). with_word u c.args.i c.args.j c.args.word) c.self.invariant kept (c.from.ensures ∙ c.number.ensures.is)
    (rw c.from.ensures c.number.ensures.bound) c.index_mut-unit.ensures.value c.set_word.ensures

pub returns : goal.returns
returns c =
    unit-written c.self.inside.list.items _ c.args.n _ _ _ (λ (u : UnitState). with_word u c.args.i c.args.j c.args.word) c.self.view_is c.self.invariant (c.from.ensures ∙ c.number.ensures.is)
    (rw c.from.ensures c.number.ensures.bound) c.index_mut-unit.ensures.value c.set_word.ensures

pub set_word-requires-clause-block : goal.set_word-requires-clause-block
set_word-requires-clause-block c =
    let us = c.self.inside.list.items in
    let unit = unit-read us c.args.n _ _ c.self.invariant (c.from.ensures ∙ c.number.ensures.is) (rw c.from.ensures c.number.ensures.bound) c.index_mut-unit.ensures.value in
    rw (unit, c.self.view_is) (item-block _ c.args.n c.args.i c.args.j c.requires)

pub set_word-requires-clause-word : goal.set_word-requires-clause-word
set_word-requires-clause-word c =
    let us = c.self.inside.list.items in
    let unit = unit-read us c.args.n _ _ c.self.invariant (c.from.ensures ∙ c.number.ensures.is) (rw c.from.ensures c.number.ensures.bound) c.index_mut-unit.ensures.value in
    rw (unit, c.self.view_is) (item-word _ c.args.n c.args.i c.args.j c.requires)
