use Rattle.std.proofs.Common.{ℕ, ◌≡◌, ◌<◌, IsTrue}
use Rattle.mix_machine.specs.Prelude.{IsWorld, each, from_cell, Wrote, fits_item}
use Rattle.mix_machine.proofs.world.World.from_cells.Given as goal

abbrev pub invariant-loop-j : goal.invariant-loop-j
invariant-loop-j l = record {
  wrote : Wrote (each l.j 0 (from_cell l.initial.self l.fn.t)) l.initial.self l.self l.initial.kept l.kept;
  cells : l.self.cells ≡ l.initial.self.cells;
  world : IsWorld l.self;
  fits : (k : ℕ) → k < l.size → IsTrue (fits_item l.self.units l.fn.t.unit l.fn.t.block k);
}
