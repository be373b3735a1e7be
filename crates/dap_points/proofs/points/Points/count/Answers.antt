-- What is counted leaves the cells, and what is watched is not touched.
use Rattle.dap_points.proofs.PointLemmas.{counted_stay}
use Rattle.dap_points.proofs.points.Points.count.Goals as goal

pub invariant_of-self : goal.invariant_of-self
invariant_of-self c = (
  counted_stay c.args.world.now c.self.inside.cells.items c.self.inside.lines.len c.self.inside.instructions.len c.self.inside.lines.items
      c.self.inside.instructions.items c.as_mut_slice.result.now c.as_mut_slice-2.result.now c.count_all.new.points c.count_all-2.new.points _ _ c.self.invariant.0
      c.as_mut_slice.ensures.value c.as_mut_slice.ensures.len c.count_all.ensures c.as_mut_slice-2.ensures.value c.as_mut_slice-2.ensures.len c.count_all-2.ensures,
  c.self.invariant.1,
)
