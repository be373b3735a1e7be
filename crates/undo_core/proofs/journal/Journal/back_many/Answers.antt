-- Each change that is taken back leaves a sound journal with the same first state.
use Rattle.std.proofs.Common.{◌∙◌, ◌+◌, ◌-◌, refl, arith}
use Rattle.undo_core.proofs.Stored.{stored_fits, stored_down}
use Rattle.undo_core.proofs.journal.Journal.back_many.Goals as goal

pub revert_part-left-requires-clause-fits : goal.revert_part-left-requires-clause-fits
revert_part-left-requires-clause-fits g c = stored_fits c.loop-many.invariant.stored.3 c.loop-many.left

pub loop-many-preserved : goal.loop-many-preserved
loop-many-preserved g c =
    let stored = c.loop-many.invariant.stored in
    let down = stored_down stored.3 c.loop-many.self-inside.places.items c.loop-many.left (c.loop-many.self-inside.done - (c.loop-many.many + 1))
    c.revert_part-left.result c.revert_part-left.new.state c.revert_part-left.new.kept.items c.if-left-gt0.true (stored.1 c.if-left-gt0.true)
    c.loop-many.invariant.left c.revert_part-left.ensures.is c.revert_part-left.ensures.within (omega arith) c.revert_part-left.ensures.back
    c.revert_part-left.ensures.cut in
    record {
      done = c.loop-many.invariant.done;
      changes = c.loop-many.invariant.changes;
      within = omega (arith, c.loop-many-test.true);
      fewer = omega (arith, down.2);
      left = down.3;
      some = λ none. absurd (omega (arith, none));
      stored = (c.loop-many.self-inside.places.items, down.4, (λ some. refl), down.0);
      first = down.1 ∙ c.loop-many.invariant.first;
    }
