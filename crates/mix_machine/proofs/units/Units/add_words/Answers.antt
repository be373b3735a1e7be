use Rattle.std.proofs.Common.{◌<◌, ◌∙◌}
use Rattle.mix_word.specs.Uses.{unit_count}
use Rattle.mix_machine.specs.Prelude.{UnitState, with_row, keep-add_row}
use Rattle.mix_machine.proofs.UnitsLemmas.{keep-grown}
use Rattle.mix_machine.proofs.units.Units.add_words.Goals as goal

pub invariant_of-self : goal.invariant_of-self
invariant_of-self c =
    let us = c.self.inside.list.items in
    let within : c.args.n < unit_count = rw (← c.number.ensures.is) c.number.ensures.bound in
    let kept = keep-add_row us c.args.n c.of.result c.self.invariant within (rw c.self.view_is c.requires.room) in
    keep-grown us c.args.n _ _ _ (λ (u : UnitState). with_row u c.of.result) c.add_row.result c.self.invariant kept (c.from.ensures ∙ c.number.ensures.is)
    (rw c.from.ensures c.number.ensures.bound) c.index_mut-unit.ensures.value c.add_row.ensures.added c.add_row.ensures.same
