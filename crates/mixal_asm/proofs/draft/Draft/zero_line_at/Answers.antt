use Rattle.std.proofs.Common.{◌+◌, drop, sym, ap, ◌∙◌, List}
use Rattle.mixal_asm.specs.Prelude.{Key, zero_lines, first_uses}
use Rattle.mixal_asm.proofs.InsertLemmas.{zero_step, zero_fault, zero_end, OnOk-map2, IfFault-map}
use Rattle.mixal_asm.proofs.draft.Draft.zero_line_at.Goals as goal

pub returns-in-Some-clause-ok : goal.returns-in-Some-clause-ok
returns-in-Some-clause-ok c =
    OnOk-map2 c.zero_line_for.result _ _ _
    (λ same ok. zero_step c.args.loc.now c.args.self.now (first_uses c.args.self.now.emitted) c.args.i c.in-Some.name c.zero_line_for.new.self (sym c.in-Some.ensures) ok
    ∙ ap (λ (names : List Key). zero_lines c.args.loc.now c.zero_line_for.new.self (drop (c.args.i + 1) names)) (sym same))
    c.zero_line_for.ensures.uses c.zero_line_for.ensures.ok

pub returns-in-Some-clause-fault : goal.returns-in-Some-clause-fault
returns-in-Some-clause-fault c =
    IfFault-map c.zero_line_for.result _ _
    (λ kind is. zero_fault c.args.loc.now c.args.self.now (first_uses c.args.self.now.emitted) c.args.i c.in-Some.name kind (sym c.in-Some.ensures) is)
    c.zero_line_for.ensures.fault

pub returns-in-None-clause-ok : goal.returns-in-None-clause-ok
returns-in-None-clause-ok c = zero_end c.args.loc.now c.args.self.now (first_uses c.args.self.now.emitted) c.args.i (sym c.in-None.ensures)
