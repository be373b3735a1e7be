use Rattle.mixal_asm.proofs.DiagnoseLemmas.{no_line, last_line}
use Rattle.mixal_asm.proofs.mentions.next_line.Goals as goal

pub returns-then-is_empty-clause-line : goal.returns-then-is_empty-clause-line
returns-then-is_empty-clause-line c = no_line c.args.text.now c.if-is_empty.ensures

pub returns-then-is_end-clause-line : goal.returns-then-is_end-clause-line
returns-then-is_end-clause-line c = last_line _ _ _ c.split_line.ensures.lines c.if-is_end.ensures
