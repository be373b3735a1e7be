use Rattle.std.proofs.Common.{◌∙◌, refl}
use Rattle.mixal_asm.proofs.LineLemmas.{con_is, fault_by, fault_of, ok_of}
use Rattle.mixal_asm.proofs.draft.Draft.con_line.Goals as goal

pub returns-in_err-value-clause-fault : goal.returns-in_err-value-clause-fault
returns-in_err-value-clause-fault c =
    fault_by _ _ _ c.from_residual-in_err-value.ensures.1
    (con_is _ _ _ _ _ _ _ _ c.here_word.ensures c.in_ok-own.ensures.ok c.in_ok-own.ensures.own c.read_value.ensures ∙ rw c.in_err-value.was refl)

pub returns-clause-fault : goal.returns-clause-fault
returns-clause-fault c =
    fault_of _ _ _
    (con_is _ _ _ _ _ _ _ _ c.here_word.ensures c.in_ok-own.ensures.ok c.in_ok-own.ensures.own c.read_value.ensures
    ∙ rw (c.in_ok-value.was, c.number-number.ensures, c.word_count-count.ensures, c.in_ok-kept.ensures) refl)
    c.emit_shown.ensures.fault

pub returns-clause-ok : goal.returns-clause-ok
returns-clause-ok c =
    ok_of _ _ _ _
    (con_is _ _ _ _ _ _ _ _ c.here_word.ensures c.in_ok-own.ensures.ok c.in_ok-own.ensures.own c.read_value.ensures
    ∙ rw (c.in_ok-value.was, c.number-number.ensures, c.word_count-count.ensures, c.in_ok-kept.ensures) refl)
    c.emit_shown.ensures.ok
