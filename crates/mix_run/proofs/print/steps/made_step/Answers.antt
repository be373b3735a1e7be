-- The line of a step, and then what was written since the rows of the state before, is what the step writes.
use Rattle.mix_run.proofs.PrintLemmas.{fault-text, line-then}
use Rattle.mix_run.proofs.print.steps.made_step.Goals as goal

pub returns-in-Some-clause-made : goal.returns-in-Some-clause-made
returns-in-Some-clause-made c =
    let stepped = rw c.in-Some.is at c.in_ok-step_with_line.ensures.stepped in (
      stepped.0,
      stepped.1,
      fault-text c.args.options.trace c.args.number c.args.world.now _ _ _ stepped.0 c.in_ok-step_with_line.ensures.line,
    )

pub returns-then-halts-clause-made : goal.returns-then-halts-clause-made
returns-then-halts-clause-made c =
    let asked = c.next_is_halt-halts.ensures in
    let answered = c.if-halts.true in
    let stepped = rw c.in-None.is at c.in_ok-step_with_line.ensures.stepped in (
      stepped,
      cc,
      line-then c.args.options c.args.number c.args.records.now.rows c.args.world.now c.step_with_line.new.world _ _ _ c.requires stepped
          c.in_ok-step_with_line.ensures.line c.in_ok-add_new.ensures.rows,
    )

pub returns-else-halts-clause-made : goal.returns-else-halts-clause-made
returns-else-halts-clause-made c =
    let asked = c.next_is_halt-halts.ensures in
    let answered = c.if-halts.false in
    let stepped = rw c.in-None.is at c.in_ok-step_with_line.ensures.stepped in (
      stepped,
      cc,
      line-then c.args.options c.args.number c.args.records.now.rows c.args.world.now c.step_with_line.new.world _ _ _ c.requires stepped
          c.in_ok-step_with_line.ensures.line c.in_ok-add_new.ensures.rows,
    )
