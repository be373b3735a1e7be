use Rattle.std.proofs.Common.{◌≡◌, ◌-◌, ℕ, List, Ok, Err, sym, ap, ◌∙◌, arith}
use Rattle.mix_formula.specs.Formula.{links, part_by, product_by, product_operator, signed_part, sum_at, sum_operator}
use Rattle.mix_formula.specs.Prelude.{Reckoned, names_of}
use Rattle.mix_formula.proofs.FormulaLemmas.{chain-read, chain-refused, links-done, links-none, links-refused, links-some, sum_at-none, sum_at-some}
use Rattle.mix_formula.proofs.formula.+formula.Goals as goal

pub product-returns-in-None : goal.product-returns-in-None
product-returns-in-None t c =
    let part = part_by (names_of c.args.scope.now) (sum_at (names_of c.args.scope.now) c.args.depth) in
    c.loop-more.invariant
    ∙ links-none product_operator part c.loop-more.more c.loop-more.value c.loop-more.rest.now c.unblanked-in-loop-more.result.now (omega arith) c.unblanked-in-loop-more.ensures c.in-None.ensures

pub product-returns-in-Err-signed_part : goal.product-returns-in-Err-signed_part
product-returns-in-Err-signed_part t c =
    let names = names_of c.args.scope.now in
    let part = part_by names (sum_at names c.args.depth) in
    let read : part c.in-Some.after.now ≡ Err c.in-Err-signed_part.left =
    ap (λ (text : List ℕ). signed_part names (sum_at names c.args.depth) text) (sym c.unblanked-in-Some.ensures) ∙ c.in-Err-signed_part.ensures in
    c.loop-more.invariant
    ∙ links-refused product_operator part c.loop-more.more c.loop-more.value c.loop-more.rest.now c.unblanked-in-loop-more.result.now c.in-Some.after.now c.in-Some.operator c.in-Err-signed_part.left (omega arith) c.unblanked-in-loop-more.ensures c.in-Some.ensures read

pub product-loop-more-preserved : goal.product-loop-more-preserved
product-loop-more-preserved t c =
    let names = names_of c.args.scope.now in
    let part = part_by names (sum_at names c.args.depth) in
    let read : part c.in-Some.after.now ≡ Ok (c.in-Ok-signed_part.next, c.in-Ok-signed_part.after.now) =
    ap (λ (text : List ℕ). signed_part names (sum_at names c.args.depth) text) (sym c.unblanked-in-Some.ensures) ∙ c.in-Ok-signed_part.ensures in
    c.loop-more.invariant
    ∙ links-some product_operator part c.loop-more.more c.loop-more.value c.in-Ok-signed_part.next c.loop-more.rest.now c.unblanked-in-loop-more.result.now c.in-Some.after.now c.in-Ok-signed_part.after.now c.in-Some.operator (omega arith) c.unblanked-in-loop-more.ensures c.in-Some.ensures read
    ∙ ap (λ (v : Reckoned). links product_operator part (c.loop-more.more - 1) v c.in-Ok-signed_part.after.now) (sym c.outcome-value.ensures)

pub product-returns : goal.product-returns
product-returns t c =
    let names = names_of c.args.scope.now in
    let part = part_by names (sum_at names c.args.depth) in
    let none : c.loop-more.more ≡ 0 = omega arith in
    c.loop-more.invariant ∙ ap (λ (n : ℕ). links product_operator part n c.loop-more.value c.loop-more.rest.now) none
    ∙ links-done product_operator part c.loop-more.value c.loop-more.rest.now

pub sum-returns-then-depth-eq0 : goal.sum-returns-then-depth-eq0
sum-returns-then-depth-eq0 t c =
    let none : c.args.depth ≡ 0 = omega arith in
    ap (λ (n : ℕ). sum_at (names_of c.args.scope.now) n c.args.text.now) none ∙ sum_at-none (names_of c.args.scope.now) c.args.text.now

pub sum-returns-in-Err : goal.sum-returns-in-Err
sum-returns-in-Err t c =
    let names = names_of c.args.scope.now in
    sum_at-some names c.args.depth c.args.text.now (omega arith)
    ∙ chain-refused sum_operator (product_by names (sum_at names (c.args.depth - 1))) c.in-Err.left c.args.text.now c.in-Err.ensures

pub sum-loop-more-init : goal.sum-loop-more-init
sum-loop-more-init t c =
    let names = names_of c.args.scope.now in
    sum_at-some names c.args.depth c.args.text.now (omega arith)
    ∙ chain-read sum_operator (product_by names (sum_at names (c.args.depth - 1))) c.in-Ok.first.0 c.args.text.now c.in-Ok.first.1.now c.in-Ok.ensures

pub sum-returns-in-None : goal.sum-returns-in-None
sum-returns-in-None t c =
    let names = names_of c.args.scope.now in
    let part = product_by names (sum_at names (c.args.depth - 1)) in
    c.loop-more.invariant
    ∙ links-none sum_operator part c.loop-more.more c.loop-more.value c.loop-more.rest.now c.unblanked.result.now (omega arith) c.unblanked.ensures c.in-None.ensures

pub sum-returns-in-Err-product : goal.sum-returns-in-Err-product
sum-returns-in-Err-product t c =
    let names = names_of c.args.scope.now in
    let part = product_by names (sum_at names (c.args.depth - 1)) in
    c.loop-more.invariant
    ∙ links-refused sum_operator part c.loop-more.more c.loop-more.value c.loop-more.rest.now c.unblanked.result.now c.in-Some.after.now c.in-Some.operator c.in-Err-product.left (omega arith) c.unblanked.ensures c.in-Some.ensures c.in-Err-product.ensures

pub sum-loop-more-preserved : goal.sum-loop-more-preserved
sum-loop-more-preserved t c =
    let names = names_of c.args.scope.now in
    let part = product_by names (sum_at names (c.args.depth - 1)) in
    c.loop-more.invariant
    ∙ links-some sum_operator part c.loop-more.more c.loop-more.value c.in-Ok-product.next c.loop-more.rest.now c.unblanked.result.now c.in-Some.after.now c.in-Ok-product.after.now c.in-Some.operator (omega arith) c.unblanked.ensures c.in-Some.ensures c.in-Ok-product.ensures
    ∙ ap (λ (v : Reckoned). links sum_operator part (c.loop-more.more - 1) v c.in-Ok-product.after.now) (sym c.outcome-value.ensures)

pub sum-returns : goal.sum-returns
sum-returns t c =
    let names = names_of c.args.scope.now in
    let part = product_by names (sum_at names (c.args.depth - 1)) in
    let none : c.loop-more.more ≡ 0 = omega arith in
    c.loop-more.invariant ∙ ap (λ (n : ℕ). links sum_operator part n c.loop-more.value c.loop-more.rest.now) none
    ∙ links-done sum_operator part c.loop-more.value c.loop-more.rest.now
