use Rattle.std.proofs.Common.{sym, subst, ap, ◌∙◌}
use Rattle.std.specs.Prelude.{ℕ, List, slice_get, length, ◌-◌}
use Rattle.std.specs.List.Sorted.{IsNonDecreasingBy}
use Rattle.mixal_asm.specs.Index.{is_later}
use Rattle.mixal_asm.proofs.IndexLemmas.{later_rises, not_later}
use Rattle.mixal_asm.proofs.index.note_cell.Goals as goal

pub returns-in_ok-push-clause-rising : goal.returns-in_ok-push-clause-rising
returns-in_ok-push-clause-rising c =
    subst (λ (cells : List (ℕ × ℕ)). IsNonDecreasingBy (λ c. c.0) cells) (sym c.in_ok-push.ensures.items)
    (later_rises c.args.cells.now.items c.args.cell c.requires
    (c.if-is_later.ensures ∙ ap (λ (cells : List (ℕ × ℕ)). is_later (slice_get cells (length cells - 1)) c.args.cell.0) c.deref.ensures.value))

pub returns-else-is_later-clause-first : goal.returns-else-is_later-clause-first
returns-else-is_later-clause-first c =
    not_later c.args.cells.now.items c.args.cell
    (c.if-is_later.ensures ∙ ap (λ (cells : List (ℕ × ℕ)). is_later (slice_get cells (length cells - 1)) c.args.cell.0) c.deref.ensures.value)
