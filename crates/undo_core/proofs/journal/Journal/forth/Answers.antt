-- The change ahead is done again as it was, so the journal stays sound and its first state stays.
use Rattle.std.proofs.Common.{◌+◌, ◌∙◌, refl, ap, arith, length, length-append, List, ℕ}
use Rattle.undo_core.specs.Counts.{places_after}
use Rattle.undo_core.proofs.Holding.{on_err}
use Rattle.undo_core.proofs.Sound.{done_by}
use Rattle.undo_core.proofs.Stored.{stored_few, stored_forth, stored_first, stored_more, stored_gives, stored_next}
use Rattle.undo_core.proofs.journal.Journal.forth.Goals as goal

pub item_at-change-requires-clause-within : goal.item_at-change-requires-clause-within
item_at-change-requires-clause-within g c =
    rw c.deref.ensures.value (stored_more c.self.invariant c.ahead.result (ap (λ j. j.ahead) c.self.view_is) c.ahead.ensures c.if-ahead-eq0.false)

pub overflow_add-self : goal.overflow_add-self
overflow_add-self g c =
    let few = stored_few c.self.invariant in
    let more = stored_more c.self.invariant c.ahead.result (ap (λ j. j.ahead) c.self.view_is) c.ahead.ensures c.if-ahead-eq0.false in
    omega (arith, few, more, ap length c.in-Ok.ensures.kept, length-append c.self.inside.kept.items (g.S.Undo.keeps c.self.inside.state c.item_at-change.result), c.len.ensures.count, c.len.ensures.few)

pub invariant_of-self-in-Ok : goal.invariant_of-self-in-Ok
invariant_of-self-in-Ok g c =
    stored_forth c.self.invariant (g.S.Undo.ends c.item_at-change.result) c.note_end.new.places.items (c.self.inside.done + 1)
    (done_by c.in-Ok.ensures.given (g.met.S.Undo.undoes _ _ _ c.in-Ok.ensures.real c.in-Ok.ensures.given) c.in-Ok.ensures.kept refl)
    (g.met.S.Undo.parts _ _ _ c.in-Ok.ensures.real c.in-Ok.ensures.given)
    (stored_more c.self.invariant c.ahead.result (ap (λ j. j.ahead) c.self.view_is) c.ahead.ensures c.if-ahead-eq0.false)
    (rw c.deref.ensures.value at c.item_at-change.ensures)
    (c.note_end.ensures ∙ ap (λ n. places_after (g.S.Undo.ends c.item_at-change.result) n c.reserve_place.new.places.items) c.len.ensures.count
    ∙ ap (λ (ps : List ℕ). places_after (g.S.Undo.ends c.item_at-change.result) (length c.apply.new.kept.items) ps) c.reserve_place.ensures.items) refl

pub unreachable-requires : goal.unreachable-requires
unreachable-requires g c =
    let fault = rw c.in-Err-Fault.field-0-is at c.in-Err-Fault.ensures.fault in
    let given = stored_gives c.self.invariant c.item_at-change.result
    (stored_more c.self.invariant c.ahead.result (ap (λ j. j.ahead) c.self.view_is) c.ahead.ensures c.if-ahead-eq0.false)
    (rw c.deref.ensures.value at c.item_at-change.ensures) in
    absurd (cc (fault, given.1))

pub returns-clause-first : goal.returns-clause-first
returns-clause-first g c =
    rw (← c.self.view_is) (stored_first c.self.invariant
    (done_by c.in-Ok.ensures.given (g.met.S.Undo.undoes _ _ _ c.in-Ok.ensures.real c.in-Ok.ensures.given) c.in-Ok.ensures.kept refl))

pub returns-in_err-reserve_place-clause-given : goal.returns-in_err-reserve_place-clause-given
returns-in_err-reserve_place-clause-given g c =
    let more = stored_more c.self.invariant c.ahead.result (ap (λ j. j.ahead) c.self.view_is) c.ahead.ensures c.if-ahead-eq0.false in
    on_err c.from_residual.result (rw (← c.self.view_is) (λ d is s came. stored_next c.self.invariant d s more is came))

pub returns-in-Err-Memory-clause-given : goal.returns-in-Err-Memory-clause-given
returns-in-Err-Memory-clause-given g c =
    let more = stored_more c.self.invariant c.ahead.result (ap (λ j. j.ahead) c.self.view_is) c.ahead.ensures c.if-ahead-eq0.false in
    rw (← c.self.view_is) (λ d is s came. stored_next c.self.invariant d s more is came)
