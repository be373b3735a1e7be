use Rattle.std.proofs.Common.{arith, ap, sym, ◌∙◌, ◌+◌}
use Rattle.mix_session.specs.Change.{chosen_line_at}
use Rattle.mix_session.proofs.ChangeLemmas.{replay-all, reversed-next, reversed-none, texts-none}
use Rattle.mix_session.proofs.show.last.lines_after.Goals as goal

pub loop-number-init : goal.loop-number-init
loop-number-init c = record {
  of = c.past-past.ensures.of;
  left = c.past-past.ensures.left ∙ sym c.done-done.ensures.count;
  from = omega arith;
  within = omega (arith, c.done-done.ensures.count);
  before = replay-all c.args.journal.now _ _ _ c.done-done.ensures.count c.state.ensures (c.drop.view_is ∙ c.in_ok-before-inside.ensures);
  after = replay-all c.args.journal.now _ _ _ c.done-done.ensures.count c.state-2.ensures c.in_ok-after.ensures;
  text = c.new-text.ensures.items ∙ reversed-none (chosen_line_at c.args.chosen c.args.journal.now) _ _ (ap (λ n. n + 1) c.done-done.ensures.count);
}

pub loop-number-preserved : goal.loop-number-preserved
loop-number-preserved c = record {
  of = c.earlier-values.ensures.of;
  left = c.earlier-values.ensures.left;
  from = omega arith;
  within = omega arith;
  before = c.unwind.ensures;
  after = c.unwind-in-loop-number.ensures;
  text = reversed-next (chosen_line_at c.args.chosen c.args.journal.now) _ _ _ _ _ (omega arith) (omega arith) c.loop-number.invariant.text c.in_ok-add_chosen.ensures;
}

pub returns-then-first-done : goal.returns-then-first-done
returns-then-first-done c =
    let done = c.done-done.ensures.count in
    c.new-text.ensures.items ∙ texts-none (chosen_line_at c.args.chosen c.args.journal.now) _ _ (omega (arith, done, c.if-first-done.true))
