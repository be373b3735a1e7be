-- A change of those done or ahead can be done once more on the state before it.
use Rattle.std.proofs.Common.{◌≡◌, ◌++◌, List, Option, Some, drop, length, ap, ◌∙◌, refl}
use Rattle.std.proofs.Math.Seq.{drop-append_seam}
use Rattle.undo_core.specs.Replay.{put_back}
use Rattle.undo_core.proofs.Stored.{stored_again}
use Rattle.undo_core.proofs.journal.Journal.redo.Goals as goal

pub unreachable-requires : goal.unreachable-requires
unreachable-requires g c =
    let fault = rw c.in-Err-Fault.field-0-is at c.in-Err-Fault.ensures.fault in
    let again = stored_again c.self.invariant c.args.number _ _ refl refl (rw (← c.self.view_is) at c.requires.within) (rw c.deref.ensures.value at c.item_at-change.ensures)
    (rw (← c.self.view_is) at c.requires.before) in
    absurd (cc (fault, again.1))

pub returns-clause-after : goal.returns-clause-after
returns-clause-after g c =
    let again = stored_again c.self.invariant c.args.number _ _ refl refl (rw (← c.self.view_is) at c.requires.within) (rw c.deref.ensures.value at c.item_at-change.ensures)
    (rw (← c.self.view_is) at c.requires.before) in
    let same : again.0 ≡ c.apply.new.self = cc (again.1, c.in-Ok.ensures.given) in
    rw (← c.self.view_is) (again.2 ∙ ap Some same)

-- values that were appended
appended : {S O : Type 0} (put : S → O → Option S) (kept values kept_now : List O) (s t : S) → kept_now ≡ kept ++ values → put_back put values t ≡ Some s →
    put_back put (drop (length kept) kept_now) t ≡ Some s
appended {O = O} put kept values kept_now s t is back =
    ap (λ (os : List O). put_back put os t) (ap (drop (length kept)) is ∙ drop-append_seam kept values) ∙ back

pub returns-clause-back : goal.returns-clause-back
returns-clause-back g c =
    appended g.S.Undo.put c.args.kept.now.items (g.S.Undo.keeps c.args.state.now c.item_at-change.result) c.apply.new.kept.items c.args.state.now c.apply.new.self
    c.in-Ok.ensures.kept (g.met.S.Undo.undoes c.args.state.now c.apply.new.self c.item_at-change.result c.in-Ok.ensures.real c.in-Ok.ensures.given)
