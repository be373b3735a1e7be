-- What is counted and what is left come to the whole at each change.
use Rattle.std.proofs.Common.{◌≡◌, ◌<◌, ◌-◌, suc, length, ap, sym, ◌∙◌, arith}
use Rattle.std.proofs.lemmas.List.{with_items_is}
use Rattle.mix_machine.specs.declared.part.Part.TheVariants.{Loc, Clock}
use Rattle.mix_machine.specs.Part.{mark_of}
use Rattle.mix_session.specs.Counts.{is_step_after}
use Rattle.mix_session.proofs.TallyLemmas.{Stands-now, Passes-is, step-after, Took-is, IsTallied-none, IsTallied-one, IsTallied-other, HasRoom-one, HasRoom-at, AreTallied-none, AreTallied-one, AreTallied-other}
use Rattle.mix_session.proofs.tally.tallies_of.Goals as goal
use Rattle.mix_session.proofs.tally.tallies_of.Goals.{then-is_step, else-is_step}

pub loop-number-init : goal.loop-number-init
loop-number-init c =
    let t = c.args.journal.now in
    let here = Stands-now t c.state.result.now c.state.ensures c.mark-location.ensures.world in
    let now = Stands-now t c.state-2.result.now c.state-2.ensures c.mark-clock.ensures.world in
    rw c.done-number.ensures.count record {
      of = c.past-past.ensures.of;
      left = c.past-past.ensures.left;
      few = rw c.done-number.ensures.count at c.done-number.type_inv;
      within = omega arith;
      stands = here.0;
      location = c.mark-location.ensures.is ∙ ap (λ w. mark_of w Loc) (sym here.1);
      clock = c.mark-clock.ensures.is ∙ ap (λ w. mark_of w Clock) (sym now.1);
      all = IsTallied-none t (is_step_after t);
      cells = AreTallied-none t c.from.result c.in_ok-cells.cells.items c.from.ensures c.in_ok-cells.ensures;
    }

pub with_one-all-requires : goal.with_one-all-requires
with_one-all-requires c =
    let t = c.args.journal.now in
    let n = c.loop-number.number - 1 in
    let one : c.loop-number.number ≡ suc n = omega (arith, c.loop-number-test.true) in
    let below : n < length t.changes = omega (arith, one, c.loop-number.invariant.within) in
    let step = step-after t n _ _ _ below c.changes-changes.ensures c.at.ensures c.if-is_step.ensures in
    HasRoom-one t (is_step_after t) n c.loop-number.all below c.loop-number.invariant.few step (rw one at c.loop-number.invariant.all)

pub add_one-requires : goal.add_one-requires
add_one-requires c real =
    let t = c.args.journal.now in
    let n = c.loop-number.number - 1 in
    let one : c.loop-number.number ≡ suc n = omega (arith, c.loop-number-test.true) in
    let loop = c.loop-number.invariant in
    let passes = Passes-is c.mark_law.ensures.before c.mark_law.ensures.world t c.loop-number.number n c.earlier-kept.result c.loop-number.location c.loop-number.clock c.before-place.result c.before-start.result
    one loop.within loop.stands loop.location loop.clock c.earlier-kept.ensures.back c.mark-location.ensures.real c.mark-clock.ensures.real c.before-place.ensures c.before-start.ensures in
    let step = step-after t n _ _ _ passes.below c.changes-changes.ensures c.at.ensures c.if-is_step.ensures in
    let took = Took-is t n _ _ _ _ _ _ _ passes c.location_in.ensures c.time_in-then-is_step.ensures c.time_in.ensures c.saturating_sub-time.ensures in
    HasRoom-at t n c.location_in.result _ c.deref_mut.result.now took loop.few step (rw (one, ← c.deref_mut.ensures.value) at loop.cells) real

pub loop-number-preserved : goal.loop-number-preserved
loop-number-preserved c =
    let t = c.args.journal.now in
    let n = c.loop-number.number - 1 in
    let one : c.loop-number.number ≡ suc n = omega (arith, c.loop-number-test.true) in
    let loop = c.loop-number.invariant in
    let passes = Passes-is c.mark_law.ensures.before c.mark_law.ensures.world t c.loop-number.number n c.earlier-kept.result c.loop-number.location c.loop-number.clock c.before-place.result c.before-start.result
    one loop.within loop.stands loop.location loop.clock c.earlier-kept.ensures.back c.mark-location.ensures.real c.mark-clock.ensures.real c.before-place.ensures c.before-start.ensures in
    record {
      of = c.earlier-kept.ensures.of;
      left = c.earlier-kept.ensures.left;
      few = loop.few;
      within = omega (arith, passes.below);
      stands = passes.before;
      location = passes.at;
      clock = passes.from;
      all = elim c.if-is_step.branch [
        | then-is_step w ↦
            let step = step-after t n _ _ _ passes.below c.changes-changes.ensures c.at.ensures w.if-is_step.ensures in
            let took = Took-is t n _ _ _ _ _ _ _ passes w.location_in.ensures w.time_in-then-is_step.ensures w.time_in.ensures w.saturating_sub-time.ensures in
            rw (w.all-is, w.with_one-all.ensures) (IsTallied-one t (is_step_after t) n w.location_in.result _ c.loop-number.all took step (rw one at loop.all))
        | else-is_step w ↦
            let step = step-after t n _ _ _ passes.below c.changes-changes.ensures c.at.ensures w.if-is_step.ensures in
            rw w.all-is (IsTallied-other t (is_step_after t) n c.loop-number.all passes.below step (rw one at loop.all))
      ];
      cells = elim c.if-is_step.branch [
        | then-is_step w ↦
            let step = step-after t n _ _ _ passes.below c.changes-changes.ensures c.at.ensures w.if-is_step.ensures in
            let took = Took-is t n _ _ _ _ _ _ _ passes w.location_in.ensures w.time_in-then-is_step.ensures w.time_in.ensures w.saturating_sub-time.ensures in
            let tallied = rw (one, ← w.deref_mut.ensures.value) at loop.cells in
            let items = with_items_is c.loop-number.cells w.add_one.new.tallies (w.add_one.ensures.len ∙ w.deref_mut.ensures.len) in
            rw (w.cells-is, items) (AreTallied-one t n w.location_in.result _ w.deref_mut.result.now w.add_one.new.tallies took step tallied w.add_one.ensures.len w.add_one.ensures.cell w.add_one.ensures.past)
        | else-is_step w ↦
            let step = step-after t n _ _ _ passes.below c.changes-changes.ensures c.at.ensures w.if-is_step.ensures in
            rw w.cells-is (AreTallied-other t n c.loop-number.cells.items passes.below step (rw one at loop.cells))
      ];
    }
