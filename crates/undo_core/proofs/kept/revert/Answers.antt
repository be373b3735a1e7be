-- The last values that are kept fit, and putting some of them back leaves the others.
use Rattle.std.proofs.Common.{◌≡◌, ◌∙◌, ◌-◌, ◌≤◌, length, take, drop, sym, ap, subst, IsSome, arith}
use Rattle.undo_core.specs.Replay.{put_back}
use Rattle.undo_core.proofs.Reverting.{later-put, cut-length, cut-some}
use Rattle.undo_core.proofs.kept.revert.Goals as goal

pub restore_some-left-requires-clause-within : goal.restore_some-left-requires-clause-within
restore_some-left-requires-clause-within g c =
    let n = length c.args.kept.now.items in
    let m = n - (c.args.count - c.loop-left.left) in
    let len = cut-length _ c.args.kept.now.items m c.loop-left.invariant.cut (omega arith) in
    omega (arith, len, c.requires.within, c.loop-left.invariant.within)

pub restore_some-left-requires-clause-fits : goal.restore_some-left-requires-clause-fits
restore_some-left-requires-clause-fits g c =
    let n = length c.args.kept.now.items in
    let m = n - (c.args.count - c.loop-left.left) in
    let xs = g.S.Old.Pack.said c.loop-left.kept-inside.anchor c.loop-left.kept-inside.units.items in
    let len = cut-length _ c.args.kept.now.items m c.loop-left.invariant.cut (omega arith) in
    let place : n - c.args.count ≡ length xs - c.loop-left.left = omega (arith, len, c.requires.within, c.loop-left.invariant.within) in
    subst (λ k. IsSome (put_back g.S.Undo.put (drop k xs) c.loop-left.state)) place c.loop-left.invariant.fits

pub loop-left-preserved : goal.loop-left-preserved
loop-left-preserved g c =
    let n = length c.args.kept.now.items in
    let count = c.args.count in
    let left = c.loop-left.left in
    let some = c.restore_some-left.result in
    let m = n - (count - left) in
    let xs = g.S.Old.Pack.said c.loop-left.kept-inside.anchor c.loop-left.kept-inside.units.items in
    let len = cut-length _ c.args.kept.now.items m c.loop-left.invariant.cut (omega arith) in
    let below : n - count ≤ length xs - some =
    omega (arith, len, c.loop-left-test.true, c.requires.within, c.loop-left.invariant.within, c.restore_some-left.ensures.within) in
    let next : m - some ≡ n - (count - (left - some)) =
    omega (arith, c.requires.within, c.loop-left.invariant.within, c.restore_some-left.ensures.within) in
    let units = g.S.Old.Pack.said c.restore_some-left.new.anchor c.restore_some-left.new.units.items in
    let put : put_back g.S.Undo.put (drop (n - count) xs) c.loop-left.state ≡ put_back g.S.Undo.put (drop (n - count) units) c.restore_some-left.new.self =
    later-put g.S.Undo.put xs (n - count) (length xs - some) c.loop-left.state c.restore_some-left.new.self below (omega arith) c.restore_some-left.ensures.back
    ∙ ap (λ os. put_back g.S.Undo.put (drop (n - count) os) c.restore_some-left.new.self) (sym c.restore_some-left.ensures.cut) in
    record {
      count = c.loop-left.invariant.count;
      within = omega (arith, c.loop-left.invariant.within);
      cut = c.restore_some-left.ensures.cut ∙ cut-some xs c.args.kept.now.items m some c.loop-left.invariant.cut (omega arith)
          ∙ ap (λ k. take k c.args.kept.now.items) next;
      fits = subst IsSome put c.loop-left.invariant.fits;
      back = sym put ∙ c.loop-left.invariant.back;
    }
