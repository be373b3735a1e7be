use Rattle.mixal_asm.proofs.DiagnoseLemmas.{no_lines}
use Rattle.mixal_asm.proofs.behind.first_line.Goals as goal

pub returns-then-is_empty-clause-line : goal.returns-then-is_empty-clause-line
returns-then-is_empty-clause-line c = no_lines c.args.text.now c.if-is_empty.ensures
