-- The tallies are those of the session.
use Rattle.mix_views.specs.Analysis.{rows_in}
use Rattle.mix_views.proofs.AnalysisLemmas.{rows-counted}
use Rattle.mix_views.proofs.analysis.rows_in.Goals as goal

pub returns : goal.returns
returns c = rows-counted c.args.session.now _ _ _ _ c.in_ok-tallies.ensures.cells c.deref.ensures.value c.program.ensures c.in_ok-rows.ensures
