-- What a cell more sets is set after those before it.
use Rattle.std.proofs.Common.{◌∙◌, arith}
use Rattle.dap_points.proofs.WrittenLemmas.{sets-next, sets-some}
use Rattle.dap_points.proofs.set.set_cells.Goals as goal

pub returns-in_err-set_cell-clause-some : goal.returns-in_err-set_cell-clause-some
returns-in_err-set_cell-clause-some c =
    sets-some c.args.session.now.timeline c.loop-cell.session.timeline c.set_cell.new.session.timeline c.args.cells.now c.loop-cell.cell-index c.cell-item.result
    (omega arith) c.cell-item.is c.loop-cell.invariant.sets c.set_cell.ensures.some

pub loop-cell-preserved : goal.loop-cell-preserved
loop-cell-preserved c = record {
  program = c.set_cell.ensures.program ∙ c.loop-cell.invariant.program;
  first = c.set_cell.ensures.first ∙ c.loop-cell.invariant.first;
  sets = sets-next c.args.session.now.timeline c.loop-cell.session.timeline c.set_cell.new.session.timeline c.args.cells.now c.loop-cell.cell-index c.cell-item.result
      (omega arith) c.cell-item.is c.loop-cell.invariant.sets c.in_ok-set_cell.ensures.all;
}

pub returns-clause-some : goal.returns-clause-some
returns-clause-some c = (c.loop-cell.cell-index, c.loop-cell.invariant.sets)
