use Rattle.std.proofs.Common.{ℕ, ◌+◌, drop, sym, ap, ◌∙◌, List}
use Rattle.mixal_asm.specs.Assembly.{literal_lines}
use Rattle.mixal_asm.proofs.InsertLemmas.{literal_step, literal_fault, literal_end, still_unplaced, OnOk-map, OnOk-map2, IfFault-map}
use Rattle.mixal_asm.proofs.draft.Draft.literal_at.Goals as goal

pub returns-in-Some-clause-ok : goal.returns-in-Some-clause-ok
returns-in-Some-clause-ok c =
    OnOk-map2 c.literal_line.result _ _ _
    (λ same ok. literal_step c.args.self.now c.args.j c.args.self.now.literals c.in-Some.text.now c.literal_line.new.self (sym c.in-Some.ensures) ok
    ∙ ap (λ (texts : List (List ℕ)). literal_lines c.literal_line.new.self (c.args.j + 1) (drop (c.args.j + 1) texts)) (sym same))
    c.literal_line.ensures.literals c.literal_line.ensures.ok

pub returns-in-Some-clause-fault : goal.returns-in-Some-clause-fault
returns-in-Some-clause-fault c =
    IfFault-map c.literal_line.result _ _
    (λ kind is. literal_fault c.args.self.now c.args.j c.args.self.now.literals c.in-Some.text.now kind (sym c.in-Some.ensures) is)
    c.literal_line.ensures.fault

pub returns-in-Some-clause-fresh : goal.returns-in-Some-clause-fresh
returns-in-Some-clause-fresh c =
    OnOk-map c.literal_line.result _ _
    (λ names k below none. still_unplaced c.args.self.now.names c.literal_line.new.self.names c.args.j k _ below names none)
    c.literal_line.ensures.names

pub returns-in-None-clause-ok : goal.returns-in-None-clause-ok
returns-in-None-clause-ok c = literal_end c.args.self.now c.args.j c.args.self.now.literals (sym c.in-None.ensures)
