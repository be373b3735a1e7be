use Rattle.std.proofs.Common.{ap, Some, []}
use Rattle.mix_session.proofs.ShowLemmas.{texts-indexed}
use Rattle.mix_session.proofs.show.unit.blocks.Goals as goal

pub returns : goal.returns
returns g c =
    rw (c.between.ensures.of, c.between.ensures.first, c.between.ensures.end) (ap Some (texts-indexed g.B.BlockText.text [] c.args.unit.now.blocks _ c.blocks-2.ensures))
