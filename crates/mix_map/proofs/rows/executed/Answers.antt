use Rattle.std.proofs.Common.{ap, arith, ◌∙◌}
use Rattle.mix_map.specs.Map.{counted, rows_below}
use Rattle.mix_map.proofs.rows.executed.Goals as goal

pub returns : goal.returns
returns c = c.loop-place.invariant
    ∙ ap (rows_below (counted c.args.columns c.args.counts.now) c.args.columns) (omega (arith, c.loop-place-test.false, c.loop-place.auto.place-end))
