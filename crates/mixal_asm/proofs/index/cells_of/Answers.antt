use Rattle.std.proofs.Common.{sym, ◌∙◌}
use Rattle.mixal_asm.proofs.IndexLemmas.{row_cell, row_no_cell}
use Rattle.mixal_asm.proofs.index.cells_of.Goals as goal
use Rattle.mixal_asm.proofs.index.cells_of.Goals.{in-Some+in_ok-note_cell-in-Some, in-None}

pub loop-row-preserved : goal.loop-row-preserved
loop-row-preserved c = elim c.match-cell_of.branch [
  | in-Some+in_ok-note_cell-in-Some w ↦
      rw w.cells-is
      (record {
        rising = w.in_ok-note_cell-in-Some.ensures.rising;
        first =
            row_cell c.args.words.now c.args.rows.now w.note_cell.new.cells.items c.loop-row.cells.items c.loop-row.row-index c.row-item.result w.in-Some.cell
            c.loop-row-test.true c.row-item.is (sym c.cell_of.ensures ∙ w.in-Some.is) c.loop-row.invariant.first w.in_ok-note_cell-in-Some.ensures.first;
      })
  | in-None w ↦
      rw w.cells-is
      (record {
        rising = c.loop-row.invariant.rising;
        first =
            row_no_cell c.args.words.now c.args.rows.now c.loop-row.cells.items c.loop-row.row-index c.row-item.result c.loop-row-test.true c.row-item.is
            (sym c.cell_of.ensures ∙ w.in-None.is) c.loop-row.invariant.first;
      })
]
