use Rattle.std.proofs.Common.{sym, refl, ◌∙◌}
use Rattle.mixal_asm.specs.Assembly.{is_unmet, first_uses}
use Rattle.mixal_asm.proofs.InsertLemmas.{find_further, find_here}
use Rattle.mixal_asm.proofs.draft.Draft.first_unmet.Goals as goal

pub returns-then-is_unmet_at : goal.returns-then-is_unmet_at
returns-then-is_unmet_at c =
    c.use_at.ensures
    ∙ sym (c.loop-i.invariant
    ∙ find_here (is_unmet c.args.self.now.names c.args.loc.now) (first_uses c.args.self.now.emitted) c.loop-i.i _ refl
    (sym c.is_unmet_at.ensures ∙ c.if-is_unmet_at.true))

pub loop-i-preserved : goal.loop-i-preserved
loop-i-preserved c =
    c.loop-i.invariant
    ∙ find_further (is_unmet c.args.self.now.names c.args.loc.now) (first_uses c.args.self.now.emitted) c.loop-i.i _ refl
    (sym c.is_unmet_at.ensures ∙ c.if-is_unmet_at.false)
