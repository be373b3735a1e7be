use Rattle.std.proofs.Common.{arith}
use Rattle.std.proofs.lemmas.Int.{ints}
use Rattle.mix_formula.proofs.ArithmeticLemmas.{quotient-minus, quotient-plus}
use Rattle.mix_formula.proofs.arithmetic.quotient.Goals as goal

pub returns-then-b-gt0 : goal.returns-then-b-gt0
returns-then-b-gt0 c =
    quotient-plus c.args.a c.args.b _ _ _ (omega (arith, ints)) (omega (arith, ints)) (omega (arith, ints)) c.floor.ensures

pub returns-else-b-gt0 : goal.returns-else-b-gt0
returns-else-b-gt0 c =
    quotient-minus c.args.a c.args.b _ _ _ (omega (arith, ints)) (omega (arith, ints)) (omega (arith, ints)) c.floor-else-b-gt0.ensures
