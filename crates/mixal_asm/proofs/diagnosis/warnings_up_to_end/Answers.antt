use Rattle.std.proofs.Common.{ap, ◌∙◌, ◌++◌, List}
use Rattle.mix_lines.specs.Lines.{lines}
use Rattle.mixal_asm.specs.Prelude.{Diagnostic, up_to_end, warnings_from}
use Rattle.mixal_asm.proofs.DiagnoseLemmas.{same_warnings}
use Rattle.mixal_asm.proofs.diagnosis.warnings_up_to_end.Goals as goal

pub returns : goal.returns
returns c =
    c.in_ok-add_warnings.ensures
    ∙ ap (λ (list : List Diagnostic). list ++ warnings_from c.in_ok-uses.uses.entries c.in_ok-definitions.definitions.entries 1 (up_to_end (lines c.args.text.now)))
    c.new-list.ensures.items
    ∙ same_warnings c.in_ok-uses.uses.entries _ c.in_ok-definitions.definitions.entries _ (λ symbol. c.in_ok-uses.ensures symbol)
    (λ symbol. c.in_ok-definitions.ensures symbol) 1 (up_to_end (lines c.args.text.now))
