use Rattle.undo_core.proofs.RunLemmas.{cut-rising, cut-items}
use Rattle.undo_core.proofs.runs.cut.Goals as goal

pub returns-clause-rising : goal.returns-clause-rising
returns-clause-rising g c =
    let read = rw c.deref.ensures.value at c.run_at-last.ensures in
    cut-rising _ _ c.run_at-last.result c.args.count c.index_mut.result.now c.requires.rising read.within c.truncate.ensures.items c.index_mut.ensures.value
    c.if-count-eq0.false read.before

pub returns-clause-items : goal.returns-clause-items
returns-clause-items g c =
    let read = rw c.deref.ensures.value at c.run_at-last.ensures in
    cut-items _ _ c.run_at-last.result c.args.count c.index_mut.result.now c.requires.rising read.within c.truncate.ensures.items c.index_mut.ensures.value
    c.if-count-eq0.false read.before read.end
