use Rattle.std.proofs.Common.{arith}
use Rattle.mix_session.proofs.AlteredLemmas.{flat_map-range}
use Rattle.mix_session.proofs.ShowLemmas.{appended}
use Rattle.mix_session.proofs.altered.unit.add_blocks.Goals as goal

pub loop-number-preserved : goal.loop-number-preserved
loop-number-preserved c = record {
  within = omega arith;
  list = appended _ _ _ _ _ _ c.loop-number.invariant.list c.in_ok-add_block.ensures (flat_map-range _ c.loop-number.number);
}
