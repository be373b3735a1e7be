use Rattle.std.proofs.Common.{◌≡◌, ◌+◌, ◌-◌, ◌≤◌, length}
use Rattle.mixal_text.specs.Expression.{expression_at, terms_at, terms_of}
use Rattle.mixal_text.proofs.expressions.expression_at.Given as goal

abbrev pub invariant-loop-operator : goal.invariant-loop-operator
invariant-loop-operator g l =
    (expression_at (g.N.Names.names l.names) l.here l.start l.text ≡ terms_at (g.N.Names.names l.names) l.here l.start (l.start + (length l.text - length l.rest)) l.value (terms_of l.rest)) × (length l.rest ≤ length l.text)

abbrev pub decreases-loop-operator : goal.decreases-loop-operator
decreases-loop-operator g l = length l.rest
