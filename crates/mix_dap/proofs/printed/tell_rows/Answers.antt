-- One row more.
use Rattle.std.proofs.Common.{◌<◌, [], length, refl, arith}
use Rattle.mix_dap.proofs.EventLemmas.{adds-none, rows-all, rows-more}
use Rattle.mix_dap.proofs.printed.tell_rows.Goals as goal

pub loop-at-init : goal.loop-at-init
loop-at-init c = ([], adds-none c.args.out.now, refl)

pub loop-at-preserved : goal.loop-at-preserved
loop-at-preserved c =
    let there : c.loop-at.at < length c.args.unit.now.rows = omega (arith, c.loop-at-test.true, c.rows.ensures) in
    rows-more c.args.unit.now.rows c.loop-at.at c.row_at.result.now _ c.args.out.now c.loop-at.out c.tell_row.new.out c.loop-at.invariant there
    c.row_at.ensures c.in_ok-tell_row.ensures

pub returns : goal.returns
returns c =
    rows-all c.args.unit.now.rows c.loop-at.at _ c.args.out.now c.loop-at.out c.loop-at.invariant (omega (arith, c.loop-at-test.false, c.rows.ensures))
