use Rattle.std.proofs.Common.{◌≡◌, [], ◌∷◌, ◌++◌, subst, sym, ap, ◌∙◌}
use Rattle.mixal_asm.specs.PassOne.{NamesSoFar}
use Rattle.mixal_asm.specs.Table.{IsTable, IsNew}
use Rattle.mixal_asm.proofs.TableLemmas.{inserted_new, table_with}
use Rattle.mixal_asm.proofs.names.NameTable.define.Goals as goal

grown : (c : goal.After-unwrap) → c.insert.new.self.entries ≡ c.self.inside.values.entries ++ (c.args.name, c.args.value) ∷ []
grown c =
    let is_new : IsNew c.self.inside.values.entries c.args.name = rw c.self.view_is c.requires in
    let put = rw c.unwrap.ensures at c.insert.ensures.entries in
    inserted_new _ _ _ _ _ _ c.self.invariant is_new c.reserve.ensures.entries put

pub invariant_of-self-2 : goal.invariant_of-self-2
invariant_of-self-2 c =
    let is_new : IsNew c.self.inside.values.entries c.args.name = rw c.self.view_is c.requires in
    subst (λ (names : NamesSoFar). IsTable names c.note_latest.new.latest.entries) (sym (grown c))
    (table_with _ _ _ _ _ c.self.invariant is_new c.in_ok-note_latest.ensures.noted)

pub returns-clause-ok : goal.returns-clause-ok
returns-clause-ok c = grown c ∙ ap (λ (names : NamesSoFar). names ++ (c.args.name, c.args.value) ∷ []) c.self.view_is
