-- The last part of the values takes the last change back that is left to read.
use Rattle.std.proofs.Common.{◌-◌, ◌<◌, length, reverse, refl, ◌∙◌, ap, arith}
use Rattle.std.proofs.lemmas.List.{length-take-le}
use Rattle.undo_core.specs.Counts.{places_below}
use Rattle.undo_core.proofs.Parting.{parted_back}
use Rattle.undo_core.proofs.Unwinding.{take_back-rest, take_back-last}
use Rattle.undo_core.proofs.past.Past.earlier.Goals as goal

pub of-values-requires : goal.of-values-requires
of-values-requires g c =
    let some : 0 < c.self.inside.left = omega (arith, c.if-self-eq0.false) in
    let is = c.before_place-places.ensures ∙ ap (λ n. places_below n (reverse c.self.inside.places.now)) c.self.invariant.all in
    rw c.copied.ensures (parted_back c.self.invariant.parted _ c.before_place-places.result.now (c.self.inside.left - 1) c.last_part-many.result some is
    c.last_part-many.ensures refl (omega (arith, some))).2

pub before-self-inside-requires : goal.before-self-inside-requires
before-self-inside-requires g c =
    let some : 0 < c.self.inside.left = omega (arith, c.if-self-eq0.false) in
    let is = c.before_place-places.ensures ∙ ap (λ n. places_below n (reverse c.self.inside.places.now)) c.self.invariant.all in
    (parted_back c.self.invariant.parted _ c.before_place-places.result.now (c.self.inside.left - 1) c.last_part-many.result some is
    c.last_part-many.ensures refl (omega (arith, some))).2

pub overflow_sub-self : goal.overflow_sub-self
overflow_sub-self g c =
    let some : 0 < c.self.inside.left = omega (arith, c.if-self-eq0.false) in
    let is = c.before_place-places.ensures ∙ ap (λ n. places_below n (reverse c.self.inside.places.now)) c.self.invariant.all in
    let within = (parted_back c.self.invariant.parted _ c.before_place-places.result.now (c.self.inside.left - 1) c.last_part-many.result some is
    c.last_part-many.ensures refl (omega (arith, some))).2 in
    omega (arith, within, c.self.invariant.all)

pub invariant_of-self : goal.invariant_of-self
invariant_of-self g c =
    let some : 0 < c.self.inside.left = omega (arith, c.if-self-eq0.false) in
    let is = c.before_place-places.ensures ∙ ap (λ n. places_below n (reverse c.self.inside.places.now)) c.self.invariant.all in
    let p = parted_back c.self.invariant.parted c.before-self-inside.result c.before_place-places.result.now (c.self.inside.left - 1) c.last_part-many.result some is
    c.last_part-many.ensures c.before-self-inside.ensures (omega (arith, some)) in
    let size = ap length c.before-self-inside.ensures ∙ length-take-le (length c.self.inside.kept - c.last_part-many.result) c.self.inside.kept (omega arith) in
    record {
      all = omega (arith, size, c.self.invariant.all);
      parted = p.0;
      back = take_back-rest _ _ (c.self.inside.left - 1) c.last_part-many.result c.self.invariant.back p.1 (omega (arith, some)) c.before-self-inside.ensures;
    }

pub returns-clause-back : goal.returns-clause-back
returns-clause-back g c =
    let some : 0 < c.self.inside.left = omega (arith, c.if-self-eq0.false) in
    let is = c.before_place-places.ensures ∙ ap (λ n. places_below n (reverse c.self.inside.places.now)) c.self.invariant.all in
    let p = parted_back c.self.invariant.parted c.before-self-inside.result c.before_place-places.result.now (c.self.inside.left - 1) c.last_part-many.result some is
    c.last_part-many.ensures c.before-self-inside.ensures (omega (arith, some)) in
    rw (← c.self.view_is)
    (take_back-last _ _ (c.self.inside.left - 1) c.last_part-many.result c.self.invariant.back p.1 (omega (arith, some)) (rw c.copied.ensures at c.of-values.ensures)).0

pub returns-clause-kept : goal.returns-clause-kept
returns-clause-kept g c =
    let some : 0 < c.self.inside.left = omega (arith, c.if-self-eq0.false) in
    let is = c.before_place-places.ensures ∙ ap (λ n. places_below n (reverse c.self.inside.places.now)) c.self.invariant.all in
    let p = parted_back c.self.invariant.parted c.before-self-inside.result c.before_place-places.result.now (c.self.inside.left - 1) c.last_part-many.result some is
    c.last_part-many.ensures c.before-self-inside.ensures (omega (arith, some)) in
    rw (← c.self.view_is)
    (take_back-last _ _ (c.self.inside.left - 1) c.last_part-many.result c.self.invariant.back p.1 (omega (arith, some)) (rw c.copied.ensures at c.of-values.ensures)).1
