use Rattle.std.proofs.Common.{◌≡◌, ◌<◌, ap}
use Rattle.mix_machine.specs.Prelude.{block_length, UnitState}
use Rattle.mix_machine.proofs.UnitLemmas.{counted, word-set, fields-set}
use Rattle.mix_machine.proofs.units.unit.Unit.set_word.Goals as goal

pub offset-at-requires-clause-block : goal.offset-at-requires-clause-block
offset-at-requires-clause-block c = rw (counted c.self.inside _ c.self.view_is) c.requires.block

pub index_mut-requires : goal.index_mut-requires
index_mut-requires c = rw c.self.inside.words.ok.0 (rw (c.self.invariant.words, ← c.block_length.ensures.is) c.offset-at.ensures.within)

pub invariant_of-self : goal.invariant_of-self
invariant_of-self c =
    let u = c.self.inside in
    let s = c.args.self.now in
    let block : c.args.i < u.count = rw (counted u s c.self.view_is) c.requires.block in
    let kind : u.kind ≡ s.kind = ap (λ (t : UnitState). t.kind) c.self.view_is in
    let word : c.args.j < block_length u.kind = rw kind c.requires.word in
    fields-set u c.args.i c.args.j _ c.args.word c.self.invariant block word (rw (← c.block_length.ensures.is) c.offset-at.ensures.is)

pub returns : goal.returns
returns c =
    let u = c.self.inside in
    let s = c.args.self.now in
    let block : c.args.i < u.count = rw (counted u s c.self.view_is) c.requires.block in
    let kind : u.kind ≡ s.kind = ap (λ (t : UnitState). t.kind) c.self.view_is in
    let word : c.args.j < block_length u.kind = rw kind c.requires.word in
    word-set u s c.args.i c.args.j _ c.args.word c.self.view_is block word (rw (← c.block_length.ensures.is) c.offset-at.ensures.is)
