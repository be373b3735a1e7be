use Rattle.std.proofs.Common.{ap}
use Rattle.mixal_asm.specs.Prelude.{Text, of_address}
use Rattle.mixal_asm.proofs.LineLemmas.{refused_as}
use Rattle.mixal_asm.proofs.draft.Draft.read_value.Goals as goal

pub returns-in-Err : goal.returns-in-Err
returns-in-Err c =
    rw (← c.here_word.ensures, ← c.self.view_is) (refused_as _ _ _ (ap Text c.in_line.ensures) (ap (of_address c.args.line.now) c.in-Err.ensures.value))
