-- What is counted and what is left come to the whole at each change.
use Rattle.std.proofs.Common.{◌≡◌, ◌-◌, suc, ap, sym, refl, ◌∙◌, arith}
use Rattle.std.proofs.lemmas.List.{with_items_is}
use Rattle.mix_machine.specs.declared.part.Part.TheVariants.{Loc}
use Rattle.mix_machine.specs.Part.{mark_of}
use Rattle.mix_session.specs.Tally.{location_in}
use Rattle.mix_session.proofs.PathLemmas.{AreCounted-none, AreCounted-one, AreCounted-other, room-one, IsPath-all}
use Rattle.mix_session.proofs.TallyLemmas.{Stands-now, Marks-is, step-after}
use Rattle.mix_session.proofs.path.path_of.Goals as goal

pub loop-number-init : goal.loop-number-init
loop-number-init c =
    let t = c.args.journal.now in
    let now = Stands-now t c.state.result.now c.state.ensures c.mark-location.ensures.world in
    rw c.done-number.ensures.count record {
      of = c.past-past.ensures.of;
      left = c.past-past.ensures.left;
      few = rw c.done-number.ensures.count at c.done-number.type_inv;
      within = omega arith;
      stands = now.0;
      location = c.mark-location.ensures.is ∙ ap (λ w. mark_of w Loc) (sym now.1);
      counts = AreCounted-none t c.args.span _ c.in_ok-counts.counts.items (rw (c.from.ensures, c.from-2.ensures) refl) c.in_ok-counts.ensures;
    }

pub count_one-requires : goal.count_one-requires
count_one-requires c real =
    let t = c.args.journal.now in
    let n = c.loop-number.number - 1 in
    let one : c.loop-number.number ≡ suc n = omega (arith, c.loop-number-test.true) in
    let loop = c.loop-number.invariant in
    let marks = Marks-is c.mark_law.ensures.before c.mark_law.ensures.world t Loc c.loop-number.number n c.earlier-kept.result c.before-place.result c.loop-number.location
    one loop.within loop.stands loop.location c.earlier-kept.ensures.back c.mark-location.ensures.real c.before-place.ensures in
    let step = step-after t n _ _ _ marks.below c.changes-changes.ensures c.at.ensures refl in
    let here = sym (c.location_in.ensures ∙ ap location_in marks.from) in
    room-one t c.args.span n c.location_in.result c.in-Some.key c.at.result c.deref_mut.result.now marks.below loop.few step here
    (sym c.key_of.ensures ∙ c.in-Some.is) (rw (one, ← c.deref_mut.ensures.value) at loop.counts) real

pub loop-number-preserved-in-Some : goal.loop-number-preserved-in-Some
loop-number-preserved-in-Some c =
    let t = c.args.journal.now in
    let n = c.loop-number.number - 1 in
    let one : c.loop-number.number ≡ suc n = omega (arith, c.loop-number-test.true) in
    let loop = c.loop-number.invariant in
    let marks = Marks-is c.mark_law.ensures.before c.mark_law.ensures.world t Loc c.loop-number.number n c.earlier-kept.result c.before-place.result c.loop-number.location
    one loop.within loop.stands loop.location c.earlier-kept.ensures.back c.mark-location.ensures.real c.before-place.ensures in
    let step = step-after t n _ _ _ marks.below c.changes-changes.ensures c.at.ensures refl in
    let here = sym (c.location_in.ensures ∙ ap location_in marks.from) in
    let items = with_items_is c.loop-number.counts c.count_one.new.counts (c.count_one.ensures.len ∙ c.deref_mut.ensures.len) in
    record {
      of = c.earlier-kept.ensures.of;
      left = c.earlier-kept.ensures.left;
      few = loop.few;
      within = omega (arith, marks.below);
      stands = marks.begins;
      location = marks.from;
      counts = rw items (AreCounted-one t c.args.span n c.location_in.result c.in-Some.key c.at.result c.deref_mut.result.now c.count_one.new.counts step here
          (sym c.key_of.ensures ∙ c.in-Some.is) (rw (one, ← c.deref_mut.ensures.value) at loop.counts) c.count_one.ensures.len c.count_one.ensures.one c.count_one.ensures.past);
    }

pub loop-number-preserved : goal.loop-number-preserved
loop-number-preserved c =
    let t = c.args.journal.now in
    let n = c.loop-number.number - 1 in
    let one : c.loop-number.number ≡ suc n = omega (arith, c.loop-number-test.true) in
    let loop = c.loop-number.invariant in
    let marks = Marks-is c.mark_law.ensures.before c.mark_law.ensures.world t Loc c.loop-number.number n c.earlier-kept.result c.before-place.result c.loop-number.location
    one loop.within loop.stands loop.location c.earlier-kept.ensures.back c.mark-location.ensures.real c.before-place.ensures in
    let step = step-after t n _ _ _ marks.below c.changes-changes.ensures c.at.ensures refl in
    let here = sym (c.location_in.ensures ∙ ap location_in marks.from) in
    record {
      of = c.earlier-kept.ensures.of;
      left = c.earlier-kept.ensures.left;
      few = loop.few;
      within = omega (arith, marks.below);
      stands = marks.begins;
      location = marks.from;
      counts = AreCounted-other t c.args.span n c.location_in.result c.at.result c.loop-number.counts.items step here
          (sym c.key_of.ensures ∙ c.in_default.is) (rw one at loop.counts);
    }

pub returns : goal.returns
returns c = IsPath-all c.args.journal.now c.args.span c.loop-number.number c.loop-number.counts.items (omega (arith, c.loop-number-test.false)) c.loop-number.invariant.counts
