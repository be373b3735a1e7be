-- One mark more is that of one condition more.
use Rattle.std.proofs.Common.{◌∙◌, ap, add-one, arith}
use Rattle.mix_machine.specs.Part.{mark_of}
use Rattle.mix_session.proofs.RunLemmas.{AreMarks-push}
use Rattle.mix_session.proofs.command.stops.marks_of.Goals as goal

pub loop-condition-preserved : goal.loop-condition-preserved
loop-condition-preserved c =
    rw (add-one, c.in_ok-push.ensures.items)
    (AreMarks-push c.args.watched.now _ c.args.world.now c.loop-condition.condition-index c.condition-item.result c.mark.result (omega arith) c.condition-item.is
    c.loop-condition.invariant (c.mark.ensures.is ∙ ap (mark_of c.args.world.now) c.watched.ensures) (rw c.watched.ensures at c.mark.ensures.real) c.mark.ensures.world)
