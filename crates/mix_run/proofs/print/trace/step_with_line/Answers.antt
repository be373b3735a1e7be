-- Only a step that is traced has a line.
use Rattle.mix_run.proofs.PrintLemmas.{quiet-line}
use Rattle.mix_run.proofs.print.trace.step_with_line.Goals as goal

pub returns-then-trace-clause-line : goal.returns-then-trace-clause-line
returns-then-trace-clause-line c = rw c.if-trace.true c.traced_step.ensures.line

pub returns-else-trace-clause-line : goal.returns-else-trace-clause-line
returns-else-trace-clause-line c = rw c.if-trace.false (quiet-line c.quiet_step.result c.args.number c.args.world.now _)
