-- A step that is not stopped by its conflict, and one that is; and what it leaves of the watch.
use Rattle.std.proofs.Common.{sym, ap, ◌∙◌, refl}
use Rattle.mix_run.specs.Print.{stops}
use Rattle.mix_run.proofs.PrintRunLemmas.{notes-made, notes-not_made, one-more}
use Rattle.mix_run.proofs.print.steps.print_step.Goals as goal

pub returns-in-Some-clause-printed : goal.returns-in-Some-clause-printed
returns-in-Some-clause-printed c =
    let stopped = ap (λ m. stops c.args.options.strict m) (sym c.conflict-conflict.ensures) ∙ sym c.stops-stop.ensures ∙ c.in-Some.is in
    rw stopped (c.in_ok-end-in-Some.ensures, refl)

pub returns-then-went-clause-room : goal.returns-then-went-clause-room
returns-then-went-clause-room c = rw (c.note.ensures.conflicts, c.in_ok-end.ensures.watch) (one-more c.args.records.now.watch.conflicts c.conflict_at-found.result)

pub returns-then-went-clause-printed : goal.returns-then-went-clause-printed
returns-then-went-clause-printed c =
    let free = ap (λ m. stops c.args.options.strict m) (sym c.conflict-conflict.ensures) ∙ sym c.stops-stop.ensures ∙ c.in-None.is in
    rw free c.in_ok-end.ensures.made

pub returns-then-went-clause-noted : goal.returns-then-went-clause-noted
returns-then-went-clause-noted c =
    notes-made _ _ _ _ _ _ (sym c.is_made-went.ensures ∙ c.if-went.true)
    (rw (c.in_ok-end.ensures.watch, c.transfer_by-made.ensures) at c.note.ensures.transfers)
    (rw (c.in_ok-end.ensures.watch, c.conflict_at-found.ensures, c.conflict-conflict.ensures) at c.note.ensures.conflicts)

pub returns-else-went-clause-printed : goal.returns-else-went-clause-printed
returns-else-went-clause-printed c =
    let free = ap (λ m. stops c.args.options.strict m) (sym c.conflict-conflict.ensures) ∙ sym c.stops-stop.ensures ∙ c.in-None.is in
    rw free c.in_ok-end.ensures.made

pub returns-else-went-clause-noted : goal.returns-else-went-clause-noted
returns-else-went-clause-noted c =
    rw c.in_ok-end.ensures.watch (notes-not_made _ c.args.options c.args.number _ _ c.made_step.new.world _ _ _
    (sym c.is_made-went.ensures ∙ c.if-went.false) c.in_ok-end.ensures.made)
