use Rattle.undo_core.proofs.RunLemmas.{end-read, count-read}
use Rattle.undo_core.proofs.runs.count_in.Goals as goal

pub returns-else-count-eq0-clause-end : goal.returns-else-count-eq0-clause-end
returns-else-count-eq0-clause-end g c = end-read _ c.index-runs-count.result c.if-count-eq0.false c.index-runs-count.is

pub returns-else-count-eq0-clause-count : goal.returns-else-count-eq0-clause-count
returns-else-count-eq0-clause-count g c = count-read _ c.index-runs-count.result c.requires c.if-count-eq0.false c.index-runs-count.is
