use Rattle.mix_session.proofs.SameWorld.{alterations-none, differences-none}
use Rattle.mix_session.proofs.laws.differences_law.Goals as goal

pub returns : goal.returns
returns c = record {
  parts = λ v w h k. alterations-none v w c.mark_law.ensures.same h k;
  lines = λ v w h k. (differences-none v w c.mark_law.ensures.same h k).0;
  columns = λ v w h k. (differences-none v w c.mark_law.ensures.same h k).1;
}
