use Rattle.std.proofs.Common.{◌≡◌, ap, ◌∙◌, None, Err}
use Rattle.mix_word.specs.Word.{plus}
use Rattle.mixal_text.specs.declared.misread.Misread.{Misread}
use Rattle.mixal_text.specs.WValue.{w_value_of}
use Rattle.mixal_asm.specs.Prelude.{Literal, scope_value}
use Rattle.mixal_asm.specs.Assembly.{of_literal}
use Rattle.mixal_asm.specs.User.{at_use}
use Rattle.mixal_asm.proofs.LineLemmas.{refused_as}
use Rattle.mixal_asm.proofs.draft.Draft.read_literal.Goals as goal

pub returns-in-Err : goal.returns-in-Err
returns-in-Err c =
    let read : Err c.in-Err.misread ≡ w_value_of (scope_value c.args.self.now.names None) (plus c.args.self.now.here) c.args.text.now =
    rw (← c.here_word.ensures, ← c.self.view_is) c.in-Err.ensures.value in
    refused_as _ _ _
    (c.at_use.ensures ∙ ap (λ (m : Misread). at_use c.args.self.now (Literal c.args.j) m) c.after_equals.ensures.is)
    (ap (of_literal c.args.self.now c.args.j) read)
