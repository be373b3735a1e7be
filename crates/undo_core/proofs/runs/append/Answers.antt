use Rattle.std.proofs.Common.{◌≡◌, ◌+◌, arith}
use Rattle.undo_core.specs.Runs.{end_of}
use Rattle.undo_core.proofs.RunLemmas.{more-rising, more-items}
use Rattle.undo_core.proofs.runs.append.Goals as goal

pub returns-clause-rising : goal.returns-clause-rising
returns-clause-rising g c =
    let end = rw c.deref.ensures.value at c.count_in.ensures.end in
    let next : c.count_in.result + c.args.many ≡ end_of 0 c.args.runs.now.items + c.args.many = omega (arith, end) in
    more-rising _ _ c.args.item _ c.args.many c.requires.rising c.push_reserved.ensures.items next

pub returns-clause-items : goal.returns-clause-items
returns-clause-items g c =
    let end = rw c.deref.ensures.value at c.count_in.ensures.end in
    let next : c.count_in.result + c.args.many ≡ end_of 0 c.args.runs.now.items + c.args.many = omega (arith, end) in
    more-items _ _ c.args.item _ c.args.many c.push_reserved.ensures.items next
