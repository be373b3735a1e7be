use Rattle.std.proofs.Common.{◌≡◌, ◌≤◌, ◌-◌, ◌/◌, Ok}
use Rattle.std.specs.List.{range_with_len}
use Rattle.dap_points.specs.Written.{cells_with, word_with}
use Rattle.dap_points.proofs.set.cells_with.Given as goal

abbrev pub invariant-loop-number : goal.invariant-loop-number
invariant-loop-number l = record {
  from : l.start / 6 ≤ l.number;
  to : l.number ≤ l.end;
  cells : cells_with (word_with l.world l.start l.bytes) (range_with_len (l.start / 6) (l.number - l.start / 6)) ≡ Ok l.cells.items;
}
