-- One condition more is looked at, whose mark is then that of the state.
use Rattle.std.proofs.Common.{◌<◌, ◌≢◌, ◌∙◌, length, ap, arith, add-one, get_or-set_other}
use Rattle.std.proofs.Math.Seq.{take-suc-set}
use Rattle.mix_machine.specs.Part.{mark_of}
use Rattle.mix_session.proofs.RunLemmas.{AreMarks-push, looked_at}
use Rattle.mix_session.proofs.command.stops.first_met.Goals as goal

pub loop-index-preserved : goal.loop-index-preserved
loop-index-preserved c =
    let below : c.loop-index.index < length c.args.watched.now = omega arith in
    let within : c.loop-index.index < length c.loop-index.marks = omega arith in
    let within_old : c.loop-index.index < length c.args.marks.now = omega arith in
    record {
      found = looked_at c.args.watched.now c.args.marks.now c.loop-index.marks c.args.world.now c.loop-index.index c.index-watched-index.result c.index-marks-index.result
          c.mark-now.result c.watched.result _ _ c.args.conflicts _ below within_old c.index-watched-index.is c.index-marks-index.is (c.loop-index.invariant.rest _ _ (omega arith))
          c.loop-index.invariant.found c.watched.ensures c.mark-now.ensures.is c.is_met-is_met.ensures c.first_of-found.ensures;
      seen = rw (add-one, take-suc-set c.loop-index.marks c.loop-index.index c.mark-now.result within)
          (AreMarks-push c.args.watched.now _ c.args.world.now c.loop-index.index c.index-watched-index.result c.mark-now.result below c.index-watched-index.is
          c.loop-index.invariant.seen (c.mark-now.ensures.is ∙ ap (mark_of c.args.world.now) c.watched.ensures)
          (rw c.watched.ensures at c.mark-now.ensures.real) c.mark-now.ensures.world);
      rest = λ k m above. let ne : k ≢ c.loop-index.index = omega arith in rw get_or-set_other (c.loop-index.invariant.rest k m (omega arith));
    }
