use Rattle.std.proofs.Common.{sym, ◌∙◌}
use Rattle.mix_machine.proofs.UnitLemmas.{length-medium}
use Rattle.mix_machine.proofs.units.unit.Unit.len.Goals as goal

pub returns-then-has_medium : goal.returns-then-has_medium
returns-then-has_medium c = length-medium c.self.inside _ c.self.view_is (sym c.has_medium.ensures ∙ c.if-has_medium.true)
