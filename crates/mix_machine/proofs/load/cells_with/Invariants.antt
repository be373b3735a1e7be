use Rattle.std.proofs.Common.{◌≡◌, drop, vec_len}
use Rattle.mix_machine.specs.Loaded.{placed}
use Rattle.mix_machine.proofs.load.cells_with.Given as goal

abbrev pub invariant-loop-place : goal.invariant-loop-place
invariant-loop-place l = record {
  places : placed l.cells.items (drop l.place-index l.words) ≡ placed l.initial.cells.items l.words;
  len : vec_len l.cells ≡ l.count;
}
