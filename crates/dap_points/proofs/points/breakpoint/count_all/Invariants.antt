use Rattle.std.proofs.Common.{◌≡◌, ◌++◌, map, take, drop}
use Rattle.dap_points.specs.Breakpoint.{with_arrival}
use Rattle.dap_points.proofs.points.breakpoint.count_all.Given as goal

abbrev pub invariant-loop-point : goal.invariant-loop-point
invariant-loop-point l = l.points ≡ map (with_arrival l.world) (take l.point-index l.fn.points) ++ drop l.point-index l.fn.points
