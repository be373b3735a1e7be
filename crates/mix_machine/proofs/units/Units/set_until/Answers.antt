use Rattle.std.proofs.Common.{◌∙◌}
use Rattle.mix_machine.specs.units.Unit.{UnitState}
use Rattle.mix_machine.specs.units.Keep.{keep-set_until}
use Rattle.mix_machine.proofs.UnitsLemmas.{keep-written, unit-written}
use Rattle.mix_machine.proofs.units.Units.set_until.Goals as goal

pub invariant_of-self : goal.invariant_of-self
invariant_of-self c =
    let us = c.self.inside.list.items in
    let kept = keep-set_until us c.args.n c.args.until c.self.invariant c.requires in
    keep-written us c.args.n _ _ _ (λ (u : UnitState). record u { until = c.args.until }) c.self.invariant kept (c.from.ensures ∙ c.number.ensures.is)
    (rw c.from.ensures c.number.ensures.bound) c.index_mut-unit.ensures.value c.set_until.ensures

pub returns : goal.returns
returns c =
    unit-written c.self.inside.list.items _ c.args.n _ _ _ (λ (u : UnitState). record u { until = c.args.until }) c.self.view_is c.self.invariant (c.from.ensures ∙ c.number.ensures.is)
    (rw c.from.ensures c.number.ensures.bound) c.index_mut-unit.ensures.value c.set_until.ensures
