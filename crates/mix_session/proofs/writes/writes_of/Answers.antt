-- What is found and what is left are all that was written.
use Rattle.std.proofs.Common.{◌≡◌, ◌-◌, suc, ap, refl, sym, ◌∙◌, arith}
use Rattle.mix_machine.specs.Part.{mark_of}
use Rattle.mix_session.proofs.TallyLemmas.{Stands-now, Marks-is}
use Rattle.mix_session.proofs.WritesLemmas.{found-one, found-past, write_if-few}
use Rattle.mix_session.proofs.writes.writes_of.Goals as goal
use Rattle.mix_session.proofs.writes.writes_of.Goals.{then-number-until+in_ok-add_write, else-number-until}

pub loop-number-init : goal.loop-number-init
loop-number-init c =
    let t = c.args.journal.now in
    let now = Stands-now t c.state.result.now c.state.ensures c.mark-mark.ensures.world in
    rw (c.done-number.ensures.count, c.new-list.ensures.items) record {
      of = c.past-past.ensures.of;
      left = c.past-past.ensures.left;
      few = omega arith;
      within = omega arith;
      stands = now.0;
      mark = c.mark-mark.ensures.is ∙ ap (λ w. mark_of w c.args.part.now) (sym now.1);
      found = refl;
    }

pub loop-number-preserved : goal.loop-number-preserved
loop-number-preserved c =
    let t = c.args.journal.now in
    let part = c.args.part.now in
    let n = c.loop-number.number - 1 in
    let one : c.loop-number.number ≡ suc n = omega (arith, c.loop-number-test.true) in
    let loop = c.loop-number.invariant in
    let marks = Marks-is c.mark_law.ensures.before c.mark_law.ensures.world t part c.loop-number.number n c.earlier-kept.result c.before-was.result c.loop-number.mark
    one loop.within loop.stands loop.mark c.earlier-kept.ensures.back c.mark-mark.ensures.real c.before-was.ensures in
    let found = rw one at loop.found in
    record {
      of = c.earlier-kept.ensures.of;
      left = c.earlier-kept.ensures.left;
      few = elim c.if-number-until.branch [
        | then-number-until+in_ok-add_write w ↦
            rw (w.list-is, w.in_ok-add_write.ensures) (write_if-few _ _ _ _ _ _ (omega (arith, c.if-len-most.true, c.len.ensures, c.loop-number.list.ok)))
        | else-number-until w ↦ rw w.list-is loop.few
      ];
      within = omega (arith, marks.below);
      stands = marks.begins;
      mark = marks.from;
      found = elim c.if-number-until.branch [
        | then-number-until+in_ok-add_write w ↦
            rw w.list-is (found-one c.mark_law.ensures.altered t part c.args.until n _ _ _ _ c.mark-mark.ensures.real marks
            (omega (arith, one, w.if-number-until.true)) found (rw one at w.in_ok-add_write.ensures))
        | else-number-until w ↦ rw w.list-is (found-past t part c.args.until n _ (omega (arith, one, w.if-number-until.false)) found)
      ];
    }
