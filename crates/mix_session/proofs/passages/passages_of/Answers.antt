-- What is found and what is left are all states in which the machine is at the location.
use Rattle.std.proofs.Common.{◌≡◌, ◌-◌, suc, ap, sym, ◌∙◌, arith}
use Rattle.mix_machine.specs.declared.part.Part.TheVariants.{Loc}
use Rattle.mix_machine.specs.Part.{mark_of}
use Rattle.mix_session.proofs.TallyLemmas.{Stands-now, Marks-is}
use Rattle.mix_session.proofs.PassagesLemmas.{passed-one, passed-first}
use Rattle.mix_session.proofs.passages.passages_of.Goals as goal

pub loop-number-init : goal.loop-number-init
loop-number-init c =
    let t = c.args.journal.now in
    let now = Stands-now t c.state.result.now c.state.ensures c.mark-location.ensures.world in
    let at = c.mark-location.ensures.is ∙ ap (λ w. mark_of w Loc) (sym now.1) in
    rw c.done-number.ensures.count record {
      of = c.past-past.ensures.of;
      left = c.past-past.ensures.left;
      within = omega arith;
      stands = now.0;
      location = at;
      passed = passed-first t c.args.place _ _ _ _ c.done-number.ensures.count c.new-list.ensures.items at c.in_ok-add_passage.ensures;
    }

pub loop-number-preserved : goal.loop-number-preserved
loop-number-preserved c =
    let t = c.args.journal.now in
    let n = c.loop-number.number - 1 in
    let one : c.loop-number.number ≡ suc n = omega (arith, c.loop-number-test.true) in
    let loop = c.loop-number.invariant in
    let marks = Marks-is c.mark_law.ensures.before c.mark_law.ensures.world t Loc c.loop-number.number n c.earlier-kept.result c.before-was.result c.loop-number.location
    one loop.within loop.stands loop.location c.earlier-kept.ensures.back c.mark-location.ensures.real c.before-was.ensures in
    record {
      of = c.earlier-kept.ensures.of;
      left = c.earlier-kept.ensures.left;
      within = omega (arith, marks.below);
      stands = marks.begins;
      location = marks.from;
      passed = passed-one t c.args.place n _ _ _ marks.from (rw one at loop.passed) c.in_ok-add_passage-2.ensures;
    }
