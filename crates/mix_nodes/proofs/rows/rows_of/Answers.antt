-- Row after row, until one has no node or there can be no more.
use Rattle.std.proofs.Common.{arith, sym, ◌∙◌, ap, length}
use Rattle.mix_nodes.specs.Nodes.{is_root, leads}
use Rattle.mix_nodes.specs.Rows.{row_in}
use Rattle.mix_nodes.proofs.MachineRows.{row-more, rows-last, rows-still, written}
use Rattle.mix_nodes.proofs.RowLemmas.{rows-first}
use Rattle.mix_nodes.proofs.rows.rows_of.Goals as goal

pub loop-row-init : goal.loop-row-init
loop-row-init c = record {
  within = omega arith;
  len = c.in_ok-rows.ensures.len ∙ sym c.node_count-count.ensures.is;
  rows = rows-first (is_root c.args.world.now c.args.shape.now) (leads c.args.world.now c.args.shape.now) c.node_count-count.result
      (row_in c.in_ok-rows.rows.items) (λ b less. c.in_ok-rows.ensures.rows b (omega (arith, less, c.node_count-count.ensures.is)));
}

pub returns-then-not-add_row : goal.returns-then-not-add_row
returns-then-not-add_row c =
    rows-still c.args.world.now c.args.shape.now c.node_count-count.result c.node_count-count.ensures.is c.loop-row.row c.loop-row.rows.len
    c.loop-row.rows.items c.deref_mut.result.now c.add_row.new.rows c.deref_mut.ensures.value c.loop-row.rows.ok.0 c.loop-row.invariant.len
    c.add_row.ensures.len (c.add_row.ensures.none c.if-not-add_row.true) (omega (arith, c.loop-row-test.true))
    c.add_row.ensures.rows c.loop-row.invariant.rows

pub loop-row-preserved : goal.loop-row-preserved
loop-row-preserved c = record {
  within = omega (arith, c.loop-row-test.true);
  len = ap length (written c.loop-row.rows.len c.add_row.new.rows c.loop-row.rows.items (c.add_row.ensures.len ∙ ap length c.deref_mut.ensures.value) c.loop-row.rows.ok.0)
      ∙ c.add_row.ensures.len ∙ ap length c.deref_mut.ensures.value ∙ c.loop-row.invariant.len;
  rows = row-more c.args.world.now c.args.shape.now c.node_count-count.result c.node_count-count.ensures.is c.loop-row.row c.loop-row.rows.len
      c.loop-row.rows.items c.deref_mut.result.now c.add_row.new.rows c.deref_mut.ensures.value c.loop-row.rows.ok.0 c.loop-row.invariant.len
      c.add_row.ensures.len c.add_row.ensures.rows c.loop-row.invariant.rows;
}

pub returns : goal.returns
returns c =
    rows-last c.args.world.now c.args.shape.now c.node_count-count.result c.node_count-count.ensures.is c.loop-row.row c.loop-row.rows.items
    c.loop-row.invariant.len c.loop-row.invariant.within (omega (arith, c.loop-row-test.false)) c.loop-row.invariant.rows
