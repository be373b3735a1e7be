use Rattle.std.proofs.Common.{sym, ◌∙◌}
use Rattle.mixal_asm.proofs.IndexLemmas.{row_defines, row_defines_none}
use Rattle.mixal_asm.proofs.index.lines_of.Goals as goal
use Rattle.mixal_asm.proofs.index.lines_of.Goals.{in-Some+in_ok-note_line-in-Some, in-None}

pub loop-row-preserved : goal.loop-row-preserved
loop-row-preserved c = elim c.match-definition_in.branch [
  | in-Some+in_ok-note_line-in-Some w ↦
      rw w.lines-is
      (row_defines c.args.rows.now c.loop-row.row-index c.row-item.result (w.in-Some.symbol, w.in-Some.number) c.loop-row.lines.entries w.note_line.new.lines.entries
      c.loop-row-test.true c.row-item.is (sym c.definition_in.ensures ∙ w.in-Some.is) w.in_ok-note_line-in-Some.ensures c.loop-row.invariant)
  | in-None w ↦
      rw w.lines-is
      (row_defines_none c.args.rows.now c.loop-row.row-index c.row-item.result c.loop-row.lines.entries c.loop-row-test.true c.row-item.is
      (sym c.definition_in.ensures ∙ w.in-None.is) c.loop-row.invariant)
]
