use Rattle.std.proofs.Common.{◌∙◌, refl}
use Rattle.mixal_asm.proofs.LineLemmas.{machine_is, fault_by, fault_of, ok_of, no_literal_loc}
use Rattle.mixal_asm.proofs.draft.Draft.machine_line.Goals as goal

pub instruction_shown-requires-clause-unplaced : goal.instruction_shown-requires-clause-unplaced
instruction_shown-requires-clause-unplaced c = no_literal_loc c.args.self.now c.label.new.self c.args.loc.now c.here_word.result c.in_ok-own.ensures.ok c.requires.unplaced

pub returns-in_err-operand-clause-fault : goal.returns-in_err-operand-clause-fault
returns-in_err-operand-clause-fault c =
    fault_by _ _ _ c.from_residual-in_err-operand.ensures.1
    (machine_is _ _ _ _ _ _ _ _ _ _ c.here_word.ensures c.in_ok-own.ensures.ok c.in_ok-own.ensures.own c.in_err-operand.ensures.operand)

pub returns-clause-fault : goal.returns-clause-fault
returns-clause-fault c =
    fault_of _ _ _
    (machine_is _ _ _ _ _ _ _ _ _ _ c.here_word.ensures c.in_ok-own.ensures.ok c.in_ok-own.ensures.own c.in_ok-operand.ensures.operand
    ∙ rw (c.number-number.ensures, c.word_count-count.ensures, c.instruction_word-word.ensures, c.in_ok-kept.ensures) refl)
    c.instruction_shown.ensures.fault

pub returns-clause-ok : goal.returns-clause-ok
returns-clause-ok c =
    ok_of _ _ _ _
    (machine_is _ _ _ _ _ _ _ _ _ _ c.here_word.ensures c.in_ok-own.ensures.ok c.in_ok-own.ensures.own c.in_ok-operand.ensures.operand
    ∙ rw (c.number-number.ensures, c.word_count-count.ensures, c.instruction_word-word.ensures, c.in_ok-kept.ensures) refl)
    c.instruction_shown.ensures.ok
