use Rattle.std.proofs.Common.{ap, Some, None}
use Rattle.mix_session.specs.ShowUnit.{row_line}
use Rattle.mix_session.proofs.ShowLemmas.{texts-indexed}
use Rattle.mix_session.proofs.show.unit.rows.Goals as goal

pub returns : goal.returns
returns c =
    rw (c.between.ensures.of, c.between.ensures.first, c.between.ensures.end) (ap Some (texts-indexed row_line None c.args.unit.now.rows _ c.rows.ensures))
