-- Up to 17 digits leave room for one more.
use Rattle.std.proofs.Common.{◌<◌, ◌^◌, arith}
use Rattle.mix_lines.proofs.NumberLemmas.{value-more, power-bound, digit-at}
use Rattle.mix_lines.proofs.numbers.value.Goals as goal

pub overflow_mul-value : goal.overflow_mul-value
overflow_mul-value c =
    let below : c.loop-digit.value < 10 ^ 17 = power-bound c.loop-digit.digit-index 17 _ (omega arith) c.loop-digit.invariant.1 in
    omega arith

pub overflow_add-value : goal.overflow_add-value
overflow_add-value c =
    let below : c.loop-digit.value < 10 ^ 17 = power-bound c.loop-digit.digit-index 17 _ (omega arith) c.loop-digit.invariant.1 in
    let digit = digit-at c.args.text.now c.loop-digit.digit-index c.requires.digits (omega arith) in
    omega arith

pub loop-digit-preserved : goal.loop-digit-preserved
loop-digit-preserved c =
    value-more c.args.text.now c.loop-digit.digit-index c.loop-digit.value c.from.result c.requires.digits (omega arith)
    c.loop-digit.invariant.0 c.loop-digit.invariant.1 (omega arith)
