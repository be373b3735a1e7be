use Rattle.std.proofs.Common.{arith}
use Rattle.std.proofs.lemmas.Option.{slice_get_within}
use Rattle.mix_map.proofs.boxes.add_boxes.Goals as goal

pub returns : goal.returns
returns c = λ r i row at less.
    c.loop-number.invariant.drawn r i row at (omega (arith, slice_get_within c.args.rows.now r row at, c.loop-number-test.false)) less
