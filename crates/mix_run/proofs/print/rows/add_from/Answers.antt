-- One row more.
use Rattle.std.proofs.Common.{◌<◌, None, arith, length}
use Rattle.mix_run.specs.Print.{printed_row}
use Rattle.mix_run.proofs.KeepLemmas.{added-all, added-more, items-next, items-none}
use Rattle.mix_run.proofs.print.rows.add_from.Goals as goal

pub loop-at-preserved : goal.loop-at-preserved
loop-at-preserved c =
    let there : c.loop-at.at < length c.args.unit.now.rows = omega (arith, c.loop-at-test.true, c.rows.ensures) in
    added-more _ _ (printed_row c.row_at.result.now) _ _ _ c.loop-at.invariant
    (items-next printed_row c.args.unit.now.rows c.loop-at.at None c.row_at.result.now there c.row_at.ensures) c.in_ok-add_row.ensures

pub returns : goal.returns
returns c =
    added-all _ _ _ c.loop-at.invariant
    (items-none printed_row c.args.unit.now.rows c.loop-at.at (omega (arith, c.loop-at-test.false, c.rows.ensures)))
