use Rattle.std.proofs.Common.{refl, ◌∙◌}
use Rattle.mixal_asm.proofs.LineLemmas.{ended_fault, ended_is, fault_by}
use Rattle.mixal_asm.proofs.draft.Draft.ended.Goals as goal

pub returns-in_err-meet-clause-fault : goal.returns-in_err-meet-clause-fault
returns-in_err-meet-clause-fault c =
    fault_by _ _ _ c.from_residual.ensures.1 (ended_fault _ _ _ _ _ _ c.in_err-meet.ensures)

pub returns-in_err-value-clause-fault : goal.returns-in_err-value-clause-fault
returns-in_err-value-clause-fault c =
    fault_by _ _ _ c.from_residual-in_err-value.ensures.1
    (ended_is _ _ _ _ _ _ _ _ _ c.in_ok-meet.ensures c.here_word.ensures c.in_ok-own.ensures.ok c.in_ok-own.ensures.own c.read_end.ensures
    ∙ rw c.in_err-value.was refl)

pub returns-in_err-start-clause-fault : goal.returns-in_err-start-clause-fault
returns-in_err-start-clause-fault c =
    fault_by _ _ _ c.from_residual-in_err-start.ensures.1
    (ended_is _ _ _ _ _ _ _ _ _ c.in_ok-meet.ensures c.here_word.ensures c.in_ok-own.ensures.ok c.in_ok-own.ensures.own c.read_end.ensures
    ∙ rw (c.in_ok-value.was, ← c.start_of.ensures, c.in_err-start.was) refl)

pub returns-clause-ok : goal.returns-clause-ok
returns-clause-ok c =
    ended_is _ _ _ _ _ _ _ _ _ c.in_ok-meet.ensures c.here_word.ensures c.in_ok-own.ensures.ok c.in_ok-own.ensures.own c.read_end.ensures
    ∙ rw (c.in_ok-value.was, ← c.start_of.ensures, c.in_ok-start.was, c.in_ok-add_row.ensures, c.in_ok-kept.ensures) refl
