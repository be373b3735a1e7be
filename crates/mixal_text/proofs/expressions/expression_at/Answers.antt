use Rattle.std.proofs.lemmas.Result.{err_from_is_err_and}
use Rattle.mixal_text.proofs.ExpressionLemmas.{first-refused, first-taken, term-refused, outcome-refused, term-taken, terms-done}
use Rattle.mixal_text.proofs.expressions.expression_at.Goals as goal

pub returns-in_err-first-clause-value : goal.returns-in_err-first-clause-value
returns-in_err-first-clause-value g c =
    let p = err_from_is_err_and c.from_residual.result c.from_residual.ensures.1 in
    rw (p.1, p.2) (first-refused _ _ _ _ _ _ _ _ _ _ c.split_sign-sign.ensures.rest c.split_atom.ensures.atom c.split_atom.ensures.rest c.place_of-from.ensures c.place_of-to.ensures c.in_err-first.ensures)

pub loop-operator-init : goal.loop-operator-init
loop-operator-init g c =
    first-taken _ _ _ _ _ _ _ _ _ _ _ _ c.split_sign-sign.ensures.sign c.split_sign-sign.ensures.rest c.split_atom.ensures.atom c.split_atom.ensures.rest c.place_of-from.ensures c.place_of-to.ensures c.in_ok-first.ensures c.value_after_sign-value.ensures

pub returns-in_err-operand-clause-value : goal.returns-in_err-operand-clause-value
returns-in_err-operand-clause-value g c =
    let p = err_from_is_err_and c.from_residual-in_err-operand.result c.from_residual-in_err-operand.ensures.1 in
    rw (p.1, p.2) (term-refused _ _ _ _ _ _ c.loop-operator.invariant.0 c.loop-operator.invariant.1 _ c.in-Some.ensures.operator c.in-Some.ensures.within _ _ _ c.in-Some.ensures.rest c.split_atom-in-Some.ensures.atom c.split_atom-in-Some.ensures.rest _ _ c.place_of-begin.ensures c.place_of-end.ensures _ c.in_err-operand.ensures)

pub returns-in_err-value-clause-value : goal.returns-in_err-value-clause-value
returns-in_err-value-clause-value g c =
    let p = err_from_is_err_and c.from_residual-in_err-value.result c.from_residual-in_err-value.ensures.1 in
    rw (p.1, p.2) (outcome-refused _ _ _ _ _ _ c.loop-operator.invariant.0 c.loop-operator.invariant.1 _ c.in-Some.ensures.operator c.in-Some.ensures.within _ _ _ c.in-Some.ensures.rest c.split_atom-in-Some.ensures.atom c.split_atom-in-Some.ensures.rest _ _ c.place_of-begin.ensures c.place_of-end.ensures _ c.in_ok-operand.ensures _ c.in_err-value.ensures)

pub loop-operator-preserved : goal.loop-operator-preserved
loop-operator-preserved g c =
    term-taken _ _ _ _ _ _ c.loop-operator.invariant.0 c.loop-operator.invariant.1 _ c.in-Some.ensures.operator c.in-Some.ensures.within _ _ _ c.in-Some.ensures.rest c.split_atom-in-Some.ensures.atom c.split_atom-in-Some.ensures.rest _ _ c.place_of-begin.ensures c.place_of-end.ensures _ c.in_ok-operand.ensures _ c.in_ok-value.ensures

pub returns-clause-value : goal.returns-clause-value
returns-clause-value g c = terms-done _ _ _ _ _ _ c.loop-operator.invariant.0 c.in_default.ensures.operator _ c.place_of-last.ensures
