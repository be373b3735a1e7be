-- Each change looked at is one more from now backwards, and the mark before it is the one that its values say.
use Rattle.std.proofs.Common.{◌≡◌, ◌<◌, ◌∙◌, arith, below_more, false, length, sym}
use Rattle.mix_session.proofs.CommandLemmas.{least_below-is}
use Rattle.mix_session.proofs.ConditionLemmas.{is_met_back, seen-none, seen-next}
use Rattle.mix_session.proofs.command.until.count_back_to.Goals as goal

pub loop-count-init : goal.loop-count-init
loop-count-init c =
    record {
      real = rw c.watched.ensures at c.mark-mark.ensures.real;
      seen = (c.state.result.now, seen-none c.args.journal.now c.args.condition.now _ _ c.state.ensures c.mark-mark.ensures.world (rw c.watched.ensures at c.mark-mark.ensures.is));
      none = λ j below. absurd (omega (arith, below));
      of = c.past-past.ensures.of;
      left = omega (arith, c.past-past.ensures.left);
    }

pub returns-then-is_met : goal.returns-then-is_met
returns-then-is_met c =
    let all : c.done-all.result ≡ length c.args.journal.now.changes = c.done-all.ensures.count in
    let below : c.loop-count.count < length c.args.journal.now.changes = omega (arith, c.requires.within, c.loop-count-test.true) in
    let seen = c.loop-count.invariant.seen in
    let next = seen-next c.mark_law.ensures.altered c.mark_law.ensures.before c.mark_law.ensures.world c.args.journal.now c.args.condition.now c.loop-count.count c.loop-count.mark c.step_back-before.result.0 c.step_back-before.result.1 c.earlier-kept.result seen.0 below c.requires.marked
    c.loop-count.invariant.real seen.1 (rw all at c.earlier-kept.ensures.back) c.step_back-before.ensures.before c.step_back-before.ensures.met in
    sym (least_below-is c.args.most c.loop-count.count (is_met_back c.args.condition.now c.args.journal.now) (omega (arith, c.loop-count-test.true))
    (λ _. sym next.2 ∙ c.if-is_met.true) c.loop-count.invariant.none)

pub loop-count-preserved : goal.loop-count-preserved
loop-count-preserved c =
    let all : c.done-all.result ≡ length c.args.journal.now.changes = c.done-all.ensures.count in
    let below : c.loop-count.count < length c.args.journal.now.changes = omega (arith, c.requires.within, c.loop-count-test.true) in
    let seen = c.loop-count.invariant.seen in
    let next = seen-next c.mark_law.ensures.altered c.mark_law.ensures.before c.mark_law.ensures.world c.args.journal.now c.args.condition.now c.loop-count.count c.loop-count.mark c.step_back-before.result.0 c.step_back-before.result.1 c.earlier-kept.result seen.0 below c.requires.marked
    c.loop-count.invariant.real seen.1 (rw all at c.earlier-kept.ensures.back) c.step_back-before.ensures.before c.step_back-before.ensures.met in
    record {
      real = c.loop-count.invariant.real;
      seen = (next.0, next.1);
      of = c.earlier-kept.ensures.of;
      left = omega (arith, c.earlier-kept.ensures.left, all, below);
      none = below_more (λ j. is_met_back c.args.condition.now c.args.journal.now j ≡ false) c.loop-count.count c.loop-count.invariant.none (sym next.2 ∙ c.if-is_met.false);
    }

pub returns : goal.returns
returns c =
    let same : c.loop-count.count ≡ c.args.most = omega (arith, c.loop-count-test.false, c.loop-count.auto.count-end) in
    sym (least_below-is c.args.most c.args.most (is_met_back c.args.condition.now c.args.journal.now) (omega arith) (λ short. absurd (omega (arith, short)))
    (λ j below. c.loop-count.invariant.none j (omega (arith, below, same))))
