use Rattle.std.proofs.Common.{◌<◌, ◌∙◌}
use Rattle.mix_word.specs.Uses.{unit_count}
use Rattle.mix_machine.specs.units.Unit.{UnitState, filled}
use Rattle.mix_machine.specs.units.Keep.{keep-fill}
use Rattle.mix_machine.proofs.UnitsLemmas.{keep-written, unit-written}
use Rattle.mix_machine.proofs.units.Units.fill.Goals as goal

pub invariant_of-self : goal.invariant_of-self
invariant_of-self c =
    let us = c.self.inside.list.items in
    let within : c.args.n < unit_count = rw (← c.number.ensures.is) c.number.ensures.bound in
    let kept = keep-fill us c.args.n c.args.words.items c.self.invariant within (rw c.self.view_is c.requires.room) in
    keep-written us c.args.n _ _ _ (λ (u : UnitState). filled u c.args.words.items) c.self.invariant kept (c.from.ensures ∙ c.number.ensures.is)
    (rw c.from.ensures c.number.ensures.bound) c.index_mut-unit.ensures.value c.fill.ensures

pub returns : goal.returns
returns c =
    unit-written c.self.inside.list.items _ c.args.n _ _ _ (λ (u : UnitState). filled u c.args.words.items) c.self.view_is c.self.invariant (c.from.ensures ∙ c.number.ensures.is)
    (rw c.from.ensures c.number.ensures.bound) c.index_mut-unit.ensures.value c.fill.ensures
