use Rattle.std.proofs.Common.{◌+◌, ◌-◌, ◌/◌, ◌<◌, ◌≡◌, length, arith}
use Rattle.undo_core.proofs.RunLemmas.{end-at, within_of}
use Rattle.undo_core.proofs.runs.run_at.Goals as goal

pub loop-low-preserved-then-runs-middle : goal.loop-low-preserved-then-runs-middle
loop-low-preserved-then-runs-middle g c =
    let middle = c.loop-low.low + (c.loop-low.high - c.loop-low.low) / 2 in
    let below : middle < c.loop-low.high = omega (arith, c.loop-low-test.true) in
    let there : middle < length c.args.runs.now = omega (arith, below, c.loop-low.invariant.within) in
    let end = end-at c.args.runs.now middle c.index-runs-middle.result there c.index-runs-middle.is in
    record {
      order = omega (arith, below);
      within = c.loop-low.invariant.within;
      before = rw end (rw (← c.index-runs-middle.is) at c.if-runs-middle.true);
      end = c.loop-low.invariant.end;
    }

pub loop-low-preserved : goal.loop-low-preserved
loop-low-preserved g c =
    let middle = c.loop-low.low + (c.loop-low.high - c.loop-low.low) / 2 in
    let below : middle < c.loop-low.high = omega (arith, c.loop-low-test.true) in
    let there : middle < length c.args.runs.now = omega (arith, below, c.loop-low.invariant.within) in
    let end = end-at c.args.runs.now middle c.index-runs-middle.result there c.index-runs-middle.is in
    record {
      order = omega (arith, below);
      within = omega (arith, there);
      before = c.loop-low.invariant.before;
      end = λ _. rw end (rw (← c.index-runs-middle.is) at c.if-runs-middle.false);
    }

pub returns-clause-within : goal.returns-clause-within
returns-clause-within g c = within_of c.args.runs.now c.loop-low.low c.args.number c.requires.rising c.requires.within c.loop-low.invariant.before
    (omega (arith, c.loop-low-test.false, c.loop-low.invariant.order, c.loop-low.invariant.within))

pub returns-clause-end : goal.returns-clause-end
returns-clause-end g c =
    let same : c.loop-low.low ≡ c.loop-low.high = omega (arith, c.loop-low-test.false, c.loop-low.invariant.order) in
    let within = within_of c.args.runs.now c.loop-low.low c.args.number c.requires.rising c.requires.within c.loop-low.invariant.before
    (omega (arith, same, c.loop-low.invariant.within)) in
    rw same (c.loop-low.invariant.end (rw same at within))
