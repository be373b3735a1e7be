use Rattle.std.proofs.Common.{ap, ◌∙◌}
use Rattle.mixal_asm.specs.PassOne.{Before}
use Rattle.mixal_asm.proofs.InsertLemmas.{same_symbols, OnOk-map}
use Rattle.mixal_asm.proofs.draft.Draft.literal_line.Goals as goal

pub returns-clause-others : goal.returns-clause-others
returns-clause-others c = λ symbol.
    OnOk-map c.emit_shown.result _ _
    (λ same. same_symbols c.args.self.now.names c.emit_shown.new.self.names c.args.j c.here_word.result symbol
    (same ∙ ap (λ (b : Before). b.names) c.in_ok-define.ensures.named))
    c.emit_shown.ensures.names
