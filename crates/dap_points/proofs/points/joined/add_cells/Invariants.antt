use Rattle.std.proofs.Common.{◌≡◌, ◌++◌, take}
use Rattle.dap_points.specs.Points.{cells_of}
use Rattle.dap_points.proofs.points.joined.add_cells.Given as goal

abbrev pub invariant-loop-breakpoint : goal.invariant-loop-breakpoint
invariant-loop-breakpoint l = l.cells.items ≡ l.initial.cells.items ++ cells_of (take l.breakpoint-index l.breakpoints)
