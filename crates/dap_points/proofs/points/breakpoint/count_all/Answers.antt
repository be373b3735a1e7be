-- One breakpoint more is counted.
use Rattle.std.proofs.Common.{arith}
use Rattle.dap_points.specs.Breakpoint.{with_arrival}
use Rattle.dap_points.proofs.PointLemmas.{made_too}
use Rattle.dap_points.proofs.points.breakpoint.count_all.Goals as goal

pub loop-point-preserved : goal.loop-point-preserved
loop-point-preserved c =
    made_too (with_arrival c.args.world.now) c.args.points.now c.loop-point.points c.loop-point.point-index c.point-item.result c.with_arrival.result
    (omega arith) c.loop-point.invariant c.with_arrival.ensures
