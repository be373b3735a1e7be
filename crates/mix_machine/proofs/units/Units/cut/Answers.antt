use Rattle.std.proofs.Common.{◌∙◌}
use Rattle.mix_word.specs.Uses.{unit_count}
use Rattle.mix_machine.specs.Prelude.{UnitState, can_cut, cut_to, unit_of}
use Rattle.mix_machine.specs.units.Keep.{keep-set_length}
use Rattle.std.proofs.lemmas.Bool.{and_parts}
use Rattle.std.proofs.Common.{nat_lt}
use Rattle.mix_machine.proofs.UnitsLemmas.{keep-written, unit-written, unit-read}
use Rattle.mix_machine.proofs.units.Units.cut.Goals as goal

pub cut-requires : goal.cut-requires
cut-requires c =
    let us = c.self.inside.list.items in
    let n = c.args.n in
    let unit = unit-read us n _ _ c.self.invariant (c.from.ensures ∙ c.number.ensures.is) (rw c.from.ensures c.number.ensures.bound) c.index_mut-unit.ensures.value in
    let both = and_parts (nat_lt n unit_count) (can_cut c.args.len (unit_of c.args.self.now n)) c.requires in
    rw (unit, c.self.view_is) both.1

pub invariant_of-self : goal.invariant_of-self
invariant_of-self c =
    let us = c.self.inside.list.items in
    let kept = keep-set_length us c.args.n c.args.len c.self.invariant (rw c.self.view_is c.requires) in
    keep-written us c.args.n _ _ _ (λ (u : UnitState). cut_to c.args.len u) c.self.invariant kept (c.from.ensures ∙ c.number.ensures.is)
    (rw c.from.ensures c.number.ensures.bound) c.index_mut-unit.ensures.value c.cut.ensures

pub returns : goal.returns
returns c =
    unit-written c.self.inside.list.items _ c.args.n _ _ _ (λ (u : UnitState). cut_to c.args.len u) c.self.view_is c.self.invariant (c.from.ensures ∙ c.number.ensures.is)
    (rw c.from.ensures c.number.ensures.bound) c.index_mut-unit.ensures.value c.cut.ensures
