-- Values are put back up to one that ends the change before, or all that may be.
use Rattle.std.proofs.Common.{◌≡◌, ◌∙◌, ◌+◌, ◌-◌, ◌≤◌, length, take, drop, reverse, sym, ap, subst, IsSome, arith}
use Rattle.undo_core.specs.Replay.{put_back}
use Rattle.undo_core.proofs.Ending.{part-ended, part-all}
use Rattle.undo_core.proofs.Restoring.{part-more, back-more}
use Rattle.undo_core.proofs.Reverting.{later-put, cut-length, cut-some, front-reversed}
use Rattle.undo_core.proofs.kept.restore_part.Goals.{else-many-most-via-then-many-most+else-is_ended, else-many-most-via-else-many-most}
use Rattle.undo_core.proofs.kept.restore_part.Goals as goal

pub returns-then-is_ended-clause-is : goal.returns-then-is_ended-clause-is
returns-then-is_ended-clause-is g c =
    let all = g.S.Old.Pack.said c.args.anchor.now c.args.units.now.items in
    let left = g.S.Old.Pack.said c.loop-many.anchor c.loop-many.units.items in
    let many = c.loop-many.many in
    let some = c.restore_some-many.result in
    let units = g.S.Old.Pack.said c.restore_some-many.new.anchor c.restore_some-many.new.units.items in
    let ends = rw c.deref.ensures.value at (sym c.is_ended.ensures ∙ c.if-is_ended.true) in
    let part = part-more g.S.Old.Pack.is_last c.args.most many some all left c.loop-many-test.true c.requires.within c.loop-many.invariant.part
    c.loop-many.invariant.goes c.loop-many.invariant.cut c.restore_some-many.ensures.part in
    let cut : units ≡ take (length all - (many + some)) all =
    c.restore_some-many.ensures.cut ∙ cut-some left all (length all - many) some c.loop-many.invariant.cut (omega arith) ∙ ap (λ k. take k all) (omega arith) in
    part-ended g.S.Old.Pack.is_last c.args.most (many + some) (reverse all) (reverse units) (omega (arith, c.restore_some-many.ensures.some)) part
    (front-reversed units all (many + some) cut (omega (arith, c.if-many-most.true, c.requires.within))) ends

pub returns-then-is_ended-clause-back : goal.returns-then-is_ended-clause-back
returns-then-is_ended-clause-back g c =
    back-more g.S.Undo.put (g.S.Old.Pack.said c.args.anchor.now c.args.units.now.items) (g.S.Old.Pack.said c.loop-many.anchor c.loop-many.units.items)
    c.loop-many.many c.restore_some-many.result c.args.state.now c.loop-many.state c.restore_some-many.new.self
    (omega (arith, c.if-many-most.true, c.requires.within)) c.loop-many.invariant.cut c.loop-many.invariant.back c.restore_some-many.ensures.back

pub loop-many-preserved : goal.loop-many-preserved
loop-many-preserved g c =
    let all = g.S.Old.Pack.said c.args.anchor.now c.args.units.now.items in
    let left = g.S.Old.Pack.said c.loop-many.anchor c.loop-many.units.items in
    let n = length all in
    let most = c.args.most in
    let many = c.loop-many.many in
    let some = c.restore_some-many.result in
    let next = c.restore_some-many.new.self in
    let len = cut-length left all (n - many) c.loop-many.invariant.cut (omega arith) in
    let units = g.S.Old.Pack.said c.restore_some-many.new.anchor c.restore_some-many.new.units.items in
    let within : many + some ≤ most = omega (arith, c.restore_some-many.ensures.within, c.loop-many-test.true) in
    let put : put_back g.S.Undo.put (drop (n - most) left) c.loop-many.state ≡ put_back g.S.Undo.put (drop (n - most) units) next =
    later-put g.S.Undo.put left (n - most) (length left - some) c.loop-many.state next (omega (arith, len, within, c.requires.within)) (omega arith)
    c.restore_some-many.ensures.back
    ∙ ap (λ os. put_back g.S.Undo.put (drop (n - most) os) next) (sym c.restore_some-many.ensures.cut) in
    record {
      within = within;
      part = λ _. part-more g.S.Old.Pack.is_last most many some all left c.loop-many-test.true c.requires.within c.loop-many.invariant.part
          c.loop-many.invariant.goes c.loop-many.invariant.cut c.restore_some-many.ensures.part;
      goes = elim c.else-many-most.branch [
        | else-many-most-via-then-many-most+else-is_ended w ↦ λ _ _. rw w.deref.ensures.value at (sym w.is_ended.ensures ∙ w.if-is_ended.false)
        | else-many-most-via-else-many-most w ↦ λ _ below. absurd (omega (arith, w.if-many-most.false, below))
      ];
      cut = c.restore_some-many.ensures.cut ∙ cut-some left all (n - many) some c.loop-many.invariant.cut (omega arith) ∙ ap (λ k. take k all) (omega arith);
      fits = subst IsSome put c.loop-many.invariant.fits;
      back = back-more g.S.Undo.put all left many some c.args.state.now c.loop-many.state next (omega (arith, within, c.requires.within))
          c.loop-many.invariant.cut c.loop-many.invariant.back c.restore_some-many.ensures.back;
    }

pub returns-clause-is : goal.returns-clause-is
returns-clause-is g c =
    part-all g.S.Old.Pack.is_last c.args.most c.loop-many.many (reverse (g.S.Old.Pack.said c.args.anchor.now c.args.units.now.items))
    (omega (arith, c.requires.some, c.loop-many-test.false)) (c.loop-many.invariant.part (omega (arith, c.requires.some, c.loop-many-test.false)))
    (omega (arith, c.loop-many-test.false))
