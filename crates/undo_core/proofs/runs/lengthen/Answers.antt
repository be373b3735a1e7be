use Rattle.std.proofs.Common.{◌≡◌, ◌-◌, ◌^◌, length, arith, refl}
use Rattle.undo_core.proofs.RunLemmas.{lengthened-rising, lengthened-items, lengthened-fits}
use Rattle.undo_core.proofs.runs.lengthen.Goals as goal

pub overflow_add-index_mut : goal.overflow_add-index_mut
overflow_add-index_mut g c =
    let place : c.len-last.result - 1 ≡ length c.args.runs.now.items - 1 = omega (arith, c.len-last.ensures, c.args.runs.now.ok.0) in
    let below = lengthened-fits _ c.index_mut.result.now (c.len-last.result - 1) (2 ^ 64) c.requires.rising (omega (arith, c.requires.some, c.args.runs.now.ok.0)) place c.index_mut.ensures.value c.args.many c.requires.few in
    omega (arith, below)

pub returns-clause-rising : goal.returns-clause-rising
returns-clause-rising g c =
    let place : c.len-last.result - 1 ≡ length c.args.runs.now.items - 1 = omega (arith, c.len-last.ensures, c.args.runs.now.ok.0) in
    lengthened-rising _ c.index_mut.result.now (c.len-last.result - 1) _ c.args.many c.requires.rising (omega (arith, c.requires.some, c.args.runs.now.ok.0)) place c.index_mut.ensures.value refl

pub returns-clause-items : goal.returns-clause-items
returns-clause-items g c =
    let place : c.len-last.result - 1 ≡ length c.args.runs.now.items - 1 = omega (arith, c.len-last.ensures, c.args.runs.now.ok.0) in
    lengthened-items _ c.index_mut.result.now _ (c.len-last.result - 1) _ c.args.many c.args.item c.requires.rising (omega (arith, c.requires.some, c.args.runs.now.ok.0)) place
    c.index_mut.ensures.value refl (rw (← c.len-last.ensures) at c.requires.same)
