use Rattle.std.proofs.Common.{◌∙◌, refl}
use Rattle.mixal_asm.proofs.LineLemmas.{orig_is, fault_by}
use Rattle.mixal_asm.proofs.draft.Draft.orig_line.Goals as goal

pub returns-in_err-value-clause-fault : goal.returns-in_err-value-clause-fault
returns-in_err-value-clause-fault c =
    fault_by _ _ _ c.from_residual-in_err-value.ensures.1
    (orig_is _ _ _ _ _ _ _ _ c.here_word.ensures c.in_ok-own.ensures.ok c.in_ok-own.ensures.own c.read_value.ensures ∙ rw c.in_err-value.was refl)

pub returns-in_err-here-clause-fault : goal.returns-in_err-here-clause-fault
returns-in_err-here-clause-fault c =
    fault_by _ _ _ c.from_residual-in_err-here.ensures.1
    (orig_is _ _ _ _ _ _ _ _ c.here_word.ensures c.in_ok-own.ensures.ok c.in_ok-own.ensures.own c.read_value.ensures
    ∙ rw (c.in_ok-value.was, ← c.location_of.ensures.is, c.in_err-here.was) refl)

pub returns-clause-ok : goal.returns-clause-ok
returns-clause-ok c =
    orig_is _ _ _ _ _ _ _ _ c.here_word.ensures c.in_ok-own.ensures.ok c.in_ok-own.ensures.own c.read_value.ensures
    ∙ rw (c.in_ok-value.was, ← c.location_of.ensures.is, c.in_ok-here.was, c.in_ok-add_row.ensures, c.go_to.ensures, c.number-number.ensures, c.in_ok-kept.ensures) refl
