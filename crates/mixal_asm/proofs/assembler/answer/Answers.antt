use Rattle.std.proofs.Common.{sym, ◌∙◌}
use Rattle.mixal_asm.proofs.LineLemmas.{answer_is, answer_fault, fault_of}
use Rattle.mixal_asm.proofs.assembler.answer.Goals as goal

pub returns-in-Ok-clause-fault : goal.returns-in-Ok-clause-fault
returns-in-Ok-clause-fault c =
    fault_of c.answer_line.result _ _
    (answer_is c.args.draft.now c.args.text.now _ (sym c.is_full.ensures ∙ c.if-is_full.false) c.in-Ok.ensures.line)
    c.answer_line.ensures.fault

pub returns-in-Err-clause-fault : goal.returns-in-Err-clause-fault
returns-in-Err-clause-fault c =
    answer_fault c.args.draft.now c.args.text.now _ (sym c.is_full.ensures ∙ c.if-is_full.false) c.in-Err.ensures.line
