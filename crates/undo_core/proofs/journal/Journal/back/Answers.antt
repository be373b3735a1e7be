-- The last change's values fit, and putting them back leaves a sound journal with the same first state.
use Rattle.std.proofs.Common.{◌-◌, ◌∙◌, reverse, ap, arith}
use Rattle.undo_core.specs.Counts.{places_below}
use Rattle.undo_core.proofs.Sound.{back_ahead, back_changes}
use Rattle.undo_core.proofs.Stored.{stored_top, stored_fits, stored_part, stored_back, stored_within}
use Rattle.undo_core.proofs.journal.Journal.back.Goals as goal

pub revert_part-requires-clause-some : goal.revert_part-requires-clause-some
revert_part-requires-clause-some g c =
    let is = c.leave_place.ensures ∙ ap (λ n. places_below n (reverse c.self.inside.places.items)) c.len-count.ensures.count in
    let top = stored_top c.self.invariant c.leave_place.new.places.items (omega (arith, c.if-self-eq0.false)) is in
    omega (arith, top, rw c.deref.ensures.value at c.newest.ensures, c.len-count.ensures.count)

pub revert_part-requires-clause-fits : goal.revert_part-requires-clause-fits
revert_part-requires-clause-fits g c = stored_fits c.self.invariant _

pub invariant_of-self : goal.invariant_of-self
invariant_of-self g c =
    let is = c.leave_place.ensures ∙ ap (λ n. places_below n (reverse c.self.inside.places.items)) c.len-count.ensures.count in
    let part = stored_part c.self.invariant c.leave_place.new.places.items c.newest.result _ c.revert_part.result (omega (arith, c.if-self-eq0.false)) is
    (rw c.deref.ensures.value at c.newest.ensures) (ap (λ n. n - c.newest.result) c.len-count.ensures.count) c.revert_part.ensures.is in
    (stored_back c.self.invariant c.leave_place.new.places.items (c.self.inside.done - 1) c.revert_part.result _ _ (omega (arith, c.if-self-eq0.false)) is
    part (omega (arith, c.if-self-eq0.false)) c.revert_part.ensures.back c.revert_part.ensures.cut).0

pub returns-clause-first : goal.returns-clause-first
returns-clause-first g c =
    let is = c.leave_place.ensures ∙ ap (λ n. places_below n (reverse c.self.inside.places.items)) c.len-count.ensures.count in
    let part = stored_part c.self.invariant c.leave_place.new.places.items c.newest.result _ c.revert_part.result (omega (arith, c.if-self-eq0.false)) is
    (rw c.deref.ensures.value at c.newest.ensures) (ap (λ n. n - c.newest.result) c.len-count.ensures.count) c.revert_part.ensures.is in
    rw (← c.self.view_is)
    (stored_back c.self.invariant c.leave_place.new.places.items (c.self.inside.done - 1) c.revert_part.result _ _ (omega (arith, c.if-self-eq0.false)) is
    part (omega (arith, c.if-self-eq0.false)) c.revert_part.ensures.back c.revert_part.ensures.cut).1

pub returns-clause-changes : goal.returns-clause-changes
returns-clause-changes g c =
    rw (← c.self.view_is) (back_changes _ (c.self.inside.done - 1) c.self.inside.done (omega (arith, c.if-self-eq0.false)) (stored_within c.self.invariant))

pub returns-clause-ahead : goal.returns-clause-ahead
returns-clause-ahead g c =
    rw (← c.self.view_is) (back_ahead _ (c.self.inside.done - 1) c.self.inside.done (omega (arith, c.if-self-eq0.false)) (stored_within c.self.invariant))
