-- The line is made from the machine as it was, which the copy is.
use Rattle.std.proofs.Common.{◌∙◌, ◌++◌, ap}
use Rattle.mix_run.proofs.PrintLemmas.{fault-adds, line-made}
use Rattle.mix_run.proofs.print.trace.traced_step.Goals as goal

pub returns-in-Some-clause-line : goal.returns-in-Some-clause-line
returns-in-Some-clause-line c =
    let stepped = rw c.in-Some.is at c.in_ok-quiet_step.ensures in
    fault-adds c.args.number c.args.world.now _ c.args.text.now.items stepped.0

pub returns-clause-line : goal.returns-clause-line
returns-clause-line c =
    c.in_ok-extend_from_slice.ensures.items ∙ ap (λ t. c.args.text.now.items ++ t)
    (c.deref.ensures.value ∙ line-made c.args.number c.args.world.now c.quiet_step.new.world _ _ (rw c.in-None.is at c.in_ok-quiet_step.ensures)
    c.in_ok-before.ensures c.in_ok-line.ensures)
