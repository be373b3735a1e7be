-- The step that would be done on another machine is one that this one does.
use Rattle.std.specs.Prelude.{refl}
use Rattle.mix_run.proofs.print.steps.end_before.Goals as goal

pub returns : goal.returns
returns c =
    let stepped = rw c.in-None.is at c.in_ok-quiet_step.ensures in ((c.quiet_step.new.world, rw c.in_ok-other.ensures at stepped), refl, refl)
