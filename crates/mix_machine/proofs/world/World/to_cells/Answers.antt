use Rattle.std.proofs.Common.{◌≡◌, ◌+◌, ◌∙◌, ap, refl, arith}
use Rattle.mix_machine.specs.Prelude.{WorldState, unit_at, set, from_block, UnitState, word_of, UnitsState, unit_of, Cell}
use Rattle.mix_machine.proofs.WriteLemmas.{wrote-none}
use Rattle.mix_machine.proofs.EachLemmas.{each-written, each-room, each-done, cell-below}
use Rattle.mix_machine.proofs.world.World.to_cells.Goals as goal

pub loop-j-init : goal.loop-j-init
loop-j-init c = record { wrote = wrote-none c.args.self.now c.args.kept.now; units = refl }

pub loop-j-preserved : goal.loop-j-preserved
loop-j-preserved c =
    let t = c.args.t in
    let w = c.args.self.now in
    let units = c.loop-j.invariant.units in
    let place : c.place.result ≡ t.cell + c.loop-j.j = cc in
    let word : c.word-word.result ≡ word_of (unit_at w t.unit) t.block c.loop-j.j =
    c.word-word.ensures ∙ ap (λ (u : UnitState). word_of u t.block c.loop-j.j) (c.unit.ensures ∙ ap (λ (us : UnitsState). unit_of us t.unit) units) in
    let o : Cell c.place.result c.word-word.result ≡ Cell (t.cell + c.loop-j.j) (word_of (unit_at w t.unit) t.block c.loop-j.j) = rw (place, word) refl in
    record {
      wrote = each-written c.loop-j.j (from_block w t) (Cell c.place.result c.word-word.result) w c.loop-j.self _ c.args.kept.now c.loop-j.kept _ c.loop-j.invariant.wrote c.write.ensures o;
      units = ap (λ (v : WorldState). v.units) c.write.ensures.state ∙ units;
    }

pub returns : goal.returns
returns c = each-done c.args.size c.loop-j.j (from_block c.args.self.now c.args.t) c.args.self.now _ c.args.kept.now _ c.loop-j.invariant.wrote (omega arith)

pub place-requires : goal.place-requires
place-requires c = cell-below _ _ _ _ c.from.ensures c.loop-j-test.true c.requires.cells

pub word-word-requires-clause-block : goal.word-word-requires-clause-block
word-word-requires-clause-block c =
    let unit = c.unit.ensures ∙ ap (λ (us : UnitsState). unit_of us c.args.t.unit) c.loop-j.invariant.units in
    rw unit c.requires.block

pub word-word-requires-clause-word : goal.word-word-requires-clause-word
word-word-requires-clause-word c =
    let unit = c.unit.ensures ∙ ap (λ (us : UnitsState). unit_of us c.args.t.unit) c.loop-j.invariant.units in
    rw (unit, ← c.requires.size) c.loop-j-test.true

pub write-requires-clause-room : goal.write-requires-clause-room
write-requires-clause-room c =
    each-room c.args.size c.loop-j.j (from_block c.args.self.now c.args.t) (set (Cell c.place.result c.word-word.result)) c.args.self.now _ c.args.kept.now _
    c.requires.room c.loop-j.invariant.wrote c.loop-j-test.true
