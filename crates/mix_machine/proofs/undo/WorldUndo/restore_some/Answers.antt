-- The units end in their header.
use Rattle.std.proofs.Common.{◌≡◌, ◌-◌, ◌∙◌, List, length, take, drop, ap, sym, subst, Some, IsSome, arith}
use Rattle.undo_core.specs.Replay.{put_back}
use Rattle.mix_machine.specs.Prelude.{said, put_value, Old}
use Rattle.mix_machine.proofs.PartLemmas.{part-longer}
use Rattle.mix_machine.proofs.undo.WorldUndo.restore_some.Goals as goal

pub restore_by-requires-clause-within : goal.restore_by-requires-clause-within
restore_by-requires-clause-within c =
    let same = ap length (ap (said c.args.anchor.now) c.in-Some.ensures.items) in
    omega (arith, c.requires.within, same)

pub restore_by-requires-clause-fits : goal.restore_by-requires-clause-fits
restore_by-requires-clause-fits c =
    subst (λ (vs : List Old). IsSome (put_back put_value (drop (length vs - c.args.most) vs) c.args.self.now)) (ap (said c.args.anchor.now) c.in-Some.ensures.items) c.requires.fits

pub returns-clause-back : goal.returns-clause-back
returns-clause-back c =
    let n = c.restore_by.result in
    subst (λ (vs : List Old). put_back put_value (drop (length vs - n) vs) c.args.self.now ≡ Some c.restore_by.new.self)
    (sym (ap (said c.args.anchor.now) c.in-Some.ensures.items)) c.restore_by.ensures.restored.back

pub returns-clause-cut : goal.returns-clause-cut
returns-clause-cut c =
    let n = c.restore_by.result in
    c.restore_by.ensures.restored.cut ∙ ap (λ (vs : List Old). take (length vs - n) vs) (sym (ap (said c.args.anchor.now) c.in-Some.ensures.items))

pub returns-clause-part : goal.returns-clause-part
returns-clause-part c =
    part-longer c.restore_by.result c.args.most _ _ (ap (said c.args.anchor.now) c.in-Some.ensures.items) c.restore_by.ensures.restored.part c.restore_by.ensures.within
