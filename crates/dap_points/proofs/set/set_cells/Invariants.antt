use Rattle.std.proofs.Common.{◌≡◌, take}
use Rattle.dap_points.specs.Written.{with_cells}
use Rattle.dap_points.proofs.set.set_cells.Given as goal

abbrev pub invariant-loop-cell : goal.invariant-loop-cell
invariant-loop-cell l = record {
  program : l.session.program ≡ l.initial.session.program;
  first : l.session.timeline.first ≡ l.initial.session.timeline.first;
  sets : l.session.timeline ≡ with_cells l.initial.session.timeline (take l.cell-index l.cells);
}
