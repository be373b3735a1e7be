use Rattle.std.proofs.Common.{◌≡◌, ◌+◌, ◌*◌}
use Rattle.mix_formula.specs.Prelude.{links, part_by, product_by, product_operator, sum_at, sum_operator, names_of}
use Rattle.mix_formula.proofs.formula.+formula.Given as goal

abbrev pub decreases-sum : goal.decreases-sum
decreases-sum l = 4 * l.depth

abbrev pub decreases-product : goal.decreases-product
decreases-product l = 4 * l.depth + 3

abbrev pub decreases-signed_part : goal.decreases-signed_part
decreases-signed_part l = 4 * l.depth + 2

abbrev pub decreases-plain_part : goal.decreases-plain_part
decreases-plain_part l = 4 * l.depth + 1

abbrev pub invariant-product-loop-more : goal.invariant-product-loop-more
invariant-product-loop-more l =
    product_by (names_of l.scope) (sum_at (names_of l.scope) l.depth) l.text
    ≡ links product_operator (part_by (names_of l.scope) (sum_at (names_of l.scope) l.depth)) l.more l.value l.rest

abbrev pub decreases-product-loop-more : goal.decreases-product-loop-more
decreases-product-loop-more l = l.more

abbrev pub invariant-sum-loop-more : goal.invariant-sum-loop-more
invariant-sum-loop-more l =
    sum_at (names_of l.scope) l.depth l.text
    ≡ links sum_operator (product_by (names_of l.scope) (sum_at (names_of l.scope) l.inner)) l.more l.value l.rest

abbrev pub decreases-sum-loop-more : goal.decreases-sum-loop-more
decreases-sum-loop-more l = l.more
