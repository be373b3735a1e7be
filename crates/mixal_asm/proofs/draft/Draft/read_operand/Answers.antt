use Rattle.std.proofs.Common.{ap, sym}
use Rattle.mixal_asm.specs.Prelude.{Text, of_address}
use Rattle.mixal_asm.proofs.LineLemmas.{refused_as}
use Rattle.mixal_asm.proofs.draft.Draft.read_operand.Goals as goal

pub returns-in-Err-clause-operand : goal.returns-in-Err-clause-operand
returns-in-Err-clause-operand c =
    rw (← c.here_word.ensures, ← c.self.view_is) (sym (refused_as _ _ _ (ap Text c.in_line.ensures) (sym (ap (of_address c.args.line.now) c.in-Err.ensures.operand))))
