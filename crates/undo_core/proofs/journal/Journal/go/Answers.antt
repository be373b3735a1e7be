-- A new change leaves a sound journal with the same first state, and the state before it gives what `apply` gave.
use Rattle.std.proofs.Common.{◌+◌, ◌∙◌, refl, ap, arith}
use Rattle.undo_core.specs.Counts.{places_after}
use Rattle.undo_core.proofs.Holding.{hold_given}
use Rattle.undo_core.proofs.Sound.{done_by, fault_of, memory_of}
use Rattle.undo_core.proofs.Stored.{stored_go, stored_given, stored_first, stored_replay, stored_stands, stored_within, stored_few}
use Rattle.undo_core.proofs.journal.Journal.go.Goals as goal

pub returns-in_err-apply-clause-fault : goal.returns-in_err-apply-clause-fault
returns-in_err-apply-clause-fault g c =
    rw (← c.self.view_is) (fault_of g.S.Undo.gives c.self.inside.state c.args.change _ _ c.in_err-apply.field-0.0
    c.from_residual.result c.from_residual.ensures.1 c.in_err-apply.ensures.fault (stored_replay c.self.invariant))

pub returns-in_err-apply-clause-last : goal.returns-in_err-apply-clause-last
returns-in_err-apply-clause-last g c =
    rw (← c.self.view_is) (memory_of g.S.Undo.gives c.self.inside.state c.args.change _ _ c.in_err-apply.field-0.0
    c.from_residual.result c.from_residual.ensures.1 c.in_err-apply.ensures.last (stored_replay c.self.invariant))

pub returns-in-Err-clause-last : goal.returns-in-Err-clause-last
returns-in-Err-clause-last g c =
    rw (← c.self.view_is) (hold_given g.S.Undo.gives _ c.self.inside.state _ (stored_replay c.self.invariant) c.args.change _ c.in_ok-apply.ensures.given)

pub add-requires-clause-within : goal.add-requires-clause-within
add-requires-clause-within g c = stored_within c.self.invariant

pub add-requires-clause-few : goal.add-requires-clause-few
add-requires-clause-few g c = omega (arith, c.len-from.ensures.few, c.len-from.ensures.count, stored_few c.self.invariant)

pub overflow_add-self : goal.overflow_add-self
overflow_add-self g c = omega (arith, c.len-from.ensures.few, c.len-from.ensures.count, stored_few c.self.invariant)

pub invariant_of-self-in-Ok : goal.invariant_of-self-in-Ok
invariant_of-self-in-Ok g c =
    stored_go c.self.invariant (g.S.Undo.ends c.args.change) c.add.new.changes.items c.add.new.places.items (c.self.inside.done + 1)
    (done_by c.in_ok-apply.ensures.given (g.met.S.Undo.undoes _ _ _ c.in_ok-apply.ensures.real c.in_ok-apply.ensures.given) c.in_ok-apply.ensures.kept refl)
    (g.met.S.Undo.parts _ _ _ c.in_ok-apply.ensures.real c.in_ok-apply.ensures.given)
    c.in-Ok.ensures.rising c.in-Ok.ensures.items (c.in-Ok.ensures.places ∙ ap (λ n. places_after (g.S.Undo.ends c.args.change) n c.self.inside.places.items) c.len-end.ensures.count) refl

pub returns-in-Ok-clause-first : goal.returns-in-Ok-clause-first
returns-in-Ok-clause-first g c =
    rw (← c.self.view_is) (stored_first c.self.invariant
    (done_by c.in_ok-apply.ensures.given (g.met.S.Undo.undoes _ _ _ c.in_ok-apply.ensures.real c.in_ok-apply.ensures.given) c.in_ok-apply.ensures.kept refl))

pub returns-in-Ok-clause-given : goal.returns-in-Ok-clause-given
returns-in-Ok-clause-given g c =
    rw (← c.self.view_is) (stored_given c.self.invariant c.add.new.changes.items (c.self.inside.done + 1)
    (done_by c.in_ok-apply.ensures.given (g.met.S.Undo.undoes _ _ _ c.in_ok-apply.ensures.real c.in_ok-apply.ensures.given) c.in_ok-apply.ensures.kept refl)
    c.in-Ok.ensures.items refl)

pub returns-in-Ok-clause-stands : goal.returns-in-Ok-clause-stands
returns-in-Ok-clause-stands g c = rw (← c.self.view_is) (stored_stands c.self.invariant)

pub returns-in-Err-clause-stands : goal.returns-in-Err-clause-stands
returns-in-Err-clause-stands g c = rw (← c.self.view_is) (stored_stands c.self.invariant)

pub returns-in_err-apply-clause-stands : goal.returns-in_err-apply-clause-stands
returns-in_err-apply-clause-stands g c = rw (← c.self.view_is) (stored_stands c.self.invariant)
