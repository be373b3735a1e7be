use Rattle.std.proofs.Common.{sym, ◌∙◌}
use Rattle.mixal_asm.proofs.InsertLemmas.{still_untaken, second_false, OnOk-map}
use Rattle.mixal_asm.proofs.draft.Draft.zero_line_unless.Goals as goal

pub returns-else-is_known-clause-untaken : goal.returns-else-is_known-clause-untaken
returns-else-is_known-clause-untaken c =
    let other = second_false _ _ (sym c.is_known.ensures ∙ c.if-is_known.false) in
    λ untaken. OnOk-map c.zero_line.result _ _ (λ names. still_untaken _ _ c.args.loc.now c.args.symbol _ other names untaken) c.zero_line.ensures.names
