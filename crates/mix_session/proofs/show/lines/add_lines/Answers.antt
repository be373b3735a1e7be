use Rattle.std.proofs.Common.{arith}
use Rattle.mix_session.proofs.ShowLemmas.{flat_map-range_next, appended}
use Rattle.mix_session.proofs.show.lines.add_lines.Goals as goal

pub loop-number-preserved : goal.loop-number-preserved
loop-number-preserved g c = record {
  within = omega arith;
  text = appended _ _ _ _ _ _ c.loop-number.invariant.text c.in_ok-add.ensures (flat_map-range_next (g.L.Lines.line c.args.lines.now) c.args.first c.loop-number.number (omega arith));
}
