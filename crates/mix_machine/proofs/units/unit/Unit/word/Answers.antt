use Rattle.std.proofs.Common.{◌≡◌, ◌<◌, ap, length}
use Rattle.mix_machine.specs.Prelude.{block_length, UnitState}
use Rattle.mix_machine.proofs.UnitLemmas.{counted, word-read}
use Rattle.mix_machine.proofs.units.unit.Unit.word.Goals as goal

pub offset-requires-clause-block : goal.offset-requires-clause-block
offset-requires-clause-block c = rw (counted c.self.inside _ c.self.view_is) c.requires.block

pub index-requires : goal.index-requires
index-requires c = rw c.self.inside.words.ok.0 (rw (c.self.invariant.words, ← c.block_length.ensures.is) c.offset.ensures.within)

pub returns : goal.returns
returns c =
    let u = c.self.inside in
    let s = c.args.self.now in
    let block : c.args.i < u.count = rw (counted u s c.self.view_is) c.requires.block in
    let kind : u.kind ≡ s.kind = ap (λ (t : UnitState). t.kind) c.self.view_is in
    let word : c.args.j < block_length u.kind = rw kind c.requires.word in
    let within : c.offset.result < length u.words.items =
    rw (c.self.invariant.words, ← c.block_length.ensures.is) c.offset.ensures.within in
    word-read u s c.args.i c.args.j _ _ c.self.view_is block word (rw (← c.block_length.ensures.is) c.offset.ensures.is) within c.index.ensures
