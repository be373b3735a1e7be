use Rattle.std.proofs.Common.{sym, ◌∙◌}
use Rattle.mixal_asm.proofs.SourceLemmas.{no_end_with}
use Rattle.mixal_asm.proofs.faults.add_lines_with.Goals as goal

pub returns-clause-fault : goal.returns-clause-fault
returns-clause-fault c =
    rw (c.fault_at.ensures, c.number.ensures)
    (no_end_with c.args.told.now c.args.text.now c.loop-rest.rest.now c.args.draft.now c.loop-rest.draft c.loop-rest.invariant.leads (sym c.is_empty.ensures ∙ c.loop-rest-test.false))
