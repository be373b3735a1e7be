use Rattle.std.proofs.Common.{ap, sym}
use Rattle.undo_core.proofs.RunLemmas.{item-read}
use Rattle.undo_core.proofs.runs.item_at.Goals as goal

pub returns : goal.returns
returns g c =
    item-read _ c.index-runs-run_at.result c.run_at.result c.args.number _ c.requires.rising c.run_at.ensures.within c.index-runs-run_at.is c.run_at.ensures.before c.run_at.ensures.end
    (ap (λ run. run.item) (sym c.index-runs-run_at.is))
