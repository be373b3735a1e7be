use Rattle.std.proofs.Common.{◌≡◌, ◌+◌, IsTrue, refl, subst, arith}
use Rattle.mix_machine.specs.Prelude.{IsWorld, cell_of, set, from_cell, fits_item, world-set_value, Item}
use Rattle.mix_machine.specs.law.Units.{fits-item-after}
use Rattle.mix_machine.proofs.WriteLemmas.{wrote-none}
use Rattle.mix_machine.proofs.EachLemmas.{each-written, each-room, each-done}
use Rattle.mix_machine.proofs.world.World.from_cells.Goals as goal

pub loop-j-init : goal.loop-j-init
loop-j-init c = record {
  wrote = wrote-none c.args.self.now c.args.kept.now;
  cells = refl;
  world = subst IsWorld c.self.view_is c.self.invariant;
  fits = c.requires.block;
}

pub loop-j-preserved : goal.loop-j-preserved
loop-j-preserved c =
    let j = c.loop-j.j in
    let w = c.loop-j.self in
    let t = c.args.t in
    let cells = c.loop-j.invariant.cells in
    let place : c.place.result ≡ t.cell + j = cc in
    let word : c.cell-word.result ≡ cell_of c.args.self.now (t.cell + j) = cc in
    let o : Item t.unit t.block j c.cell-word.result ≡ Item t.unit t.block j (cell_of c.args.self.now (t.cell + j)) = cc in
    let here : IsTrue (fits_item w.units t.unit t.block j) = c.loop-j.invariant.fits j c.loop-j-test.true in
    record {
      wrote = each-written j (from_cell c.args.self.now t) (Item t.unit t.block j c.cell-word.result) c.args.self.now w _ c.args.kept.now c.loop-j.kept _ c.loop-j.invariant.wrote c.write.ensures o;
      cells = cc;
      world = rw c.write.ensures.state (world-set_value w (Item t.unit t.block j c.cell-word.result) c.loop-j.invariant.world here);
      fits = λ k l. rw c.write.ensures.state (fits-item-after w.units t.unit t.block j k c.cell-word.result c.loop-j.invariant.world.units here (c.loop-j.invariant.fits k l));
    }

pub returns : goal.returns
returns c = each-done c.args.size c.loop-j.j (from_cell c.args.self.now c.args.t) c.args.self.now _ c.args.kept.now _ c.loop-j.invariant.wrote (omega arith)

pub write-requires-clause-room : goal.write-requires-clause-room
write-requires-clause-room c =
    each-room c.args.size c.loop-j.j (from_cell c.args.self.now c.args.t) (set (Item c.args.t.unit c.args.t.block c.loop-j.j c.cell-word.result)) c.args.self.now _ c.args.kept.now _
    c.requires.room c.loop-j.invariant.wrote c.loop-j-test.true
