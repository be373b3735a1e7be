use Rattle.std.proofs.Common.{◌∙◌, ap, sym}
use Rattle.std.specs.List.{slice_get}
use Rattle.mix_machine.specs.Prelude.{UnitState, block_length}
use Rattle.mix_machine.proofs.BlockLemmas.{block-read, block-past}
use Rattle.mix_machine.proofs.units.unit.Unit.block.Goals as goal

pub returns-then-i-self : goal.returns-then-i-self
returns-then-i-self c =
    let u = c.self.inside in
    let length = c.from-length.ensures ∙ c.block_length.ensures.is in
    block-read u.count (block_length u.kind) c.args.i _ u.words.items _ _ c.if-i-self.true c.from.ensures length c.deref.ensures.value
    ∙ ap (λ (s : UnitState). slice_get s.blocks c.args.i) c.self.view_is

pub returns-else-i-self : goal.returns-else-i-self
returns-else-i-self c =
    let u = c.self.inside in
    sym (block-past u.count (block_length u.kind) c.args.i u.words.items c.if-i-self.false)
    ∙ ap (λ (s : UnitState). slice_get s.blocks c.args.i) c.self.view_is
