-- Of the values that are left the last one fits, and putting it back leaves the others.
use Rattle.std.proofs.Common.{◌∙◌, [], ◌∷◌, ap, length, length-append, sym, subst, IsSome, arith}
use Rattle.undo_core.proofs.Reverting.{last-fits, last-put}
use Rattle.undo_core.proofs.undo.Undo.restore_all.Goals as goal

pub restore-requires : goal.restore-requires
restore-requires g c = last-fits g.Self.Undo.put _ _ _ c.loop.self c.in-Some.ensures c.loop.invariant.fits

pub loop-preserved : goal.loop-preserved
loop-preserved g c =
    let put = last-put g.Self.Undo.put _ _ _ c.loop.self _ c.in-Some.ensures c.restore.ensures in
    let all = ap length c.in-Some.ensures ∙ length-append c.pop.new.self (c.in-Some.value ∷ []) in
    record {
      many = omega (arith, c.loop.invariant.many, all);
      fits = subst IsSome put c.loop.invariant.fits;
      back = sym put ∙ c.loop.invariant.back;
    }
