-- One mark more is that of one condition more.
use Rattle.std.proofs.Common.{◌<◌, ◌≤◌, ◌∙◌, length, length-set, ap, arith, add-one}
use Rattle.std.proofs.Math.Seq.{take-suc-set}
use Rattle.mix_machine.specs.Part.{mark_of}
use Rattle.mix_session.proofs.RunLemmas.{AreMarks-push}
use Rattle.mix_session.proofs.command.stops.marks_at.Goals as goal

pub loop-index-preserved : goal.loop-index-preserved
loop-index-preserved c =
    let few : length c.as_slice-watched.result.now ≤ 8 = rw c.as_slice-watched.ensures.is c.as_slice-watched.ensures.within in
    let below : c.loop-index.index < length c.as_slice-watched.result.now = omega arith in
    let within : c.loop-index.index < length c.loop-index.marks = omega (arith, few, below, c.loop-index.invariant.all) in
    record {
      all = length-set c.loop-index.marks c.loop-index.index c.mark.result ∙ c.loop-index.invariant.all;
      seen = rw (add-one, take-suc-set c.loop-index.marks c.loop-index.index c.mark.result within)
          (AreMarks-push c.as_slice-watched.result.now _ c.args.world.now c.loop-index.index c.index-watched-index.result c.mark.result below c.index-watched-index.is
          c.loop-index.invariant.seen (c.mark.ensures.is ∙ ap (mark_of c.args.world.now) c.watched.ensures)
          (rw c.watched.ensures at c.mark.ensures.real) c.mark.ensures.world);
    }
