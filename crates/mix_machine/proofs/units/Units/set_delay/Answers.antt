use Rattle.std.proofs.Common.{◌<◌, ◌∙◌}
use Rattle.mix_word.specs.Uses.{unit_count}
use Rattle.mix_machine.specs.units.Unit.{UnitState}
use Rattle.mix_machine.specs.units.Keep.{keep-set_delay}
use Rattle.mix_machine.proofs.UnitsLemmas.{keep-written, unit-written}
use Rattle.mix_machine.proofs.units.Units.set_delay.Goals as goal

pub invariant_of-self : goal.invariant_of-self
invariant_of-self c =
    let us = c.self.inside.list.items in
    let within : c.args.n < unit_count = rw (← c.number.ensures.is) c.number.ensures.bound in
    let kept = keep-set_delay us c.args.n c.args.delay c.self.invariant within c.requires in
    keep-written us c.args.n _ _ _ (λ (u : UnitState). record u { delay = c.args.delay }) c.self.invariant kept (c.from.ensures ∙ c.number.ensures.is)
    (rw c.from.ensures c.number.ensures.bound) c.index_mut-unit.ensures.value c.set_delay.ensures

pub returns : goal.returns
returns c =
    unit-written c.self.inside.list.items _ c.args.n _ _ _ (λ (u : UnitState). record u { delay = c.args.delay }) c.self.view_is c.self.invariant (c.from.ensures ∙ c.number.ensures.is)
    (rw c.from.ensures c.number.ensures.bound) c.index_mut-unit.ensures.value c.set_delay.ensures
