use Rattle.std.proofs.Common.{◌≡◌}
use Rattle.mix_machine.specs.Prelude.{each, from_block, Wrote}
use Rattle.mix_machine.proofs.world.World.to_cells.Given as goal

abbrev pub invariant-loop-j : goal.invariant-loop-j
invariant-loop-j l = record {
  wrote : Wrote (each l.j 0 (from_block l.initial.self l.fn.t)) l.initial.self l.self l.initial.kept l.kept;
  units : l.self.units ≡ l.initial.self.units;
}
