-- The least number of changes, of one condition more.
use Rattle.std.proofs.Common.{◌<◌, ◌∙◌, arith, length, sym}
use Rattle.mix_session.proofs.KnownLemmas.{last_known}
use Rattle.mix_session.proofs.UntilLemmas.{count_back-none, count_back-more, count_back-within}
use Rattle.mix_session.proofs.command.until.count_back.Goals as goal

pub loop-condition-init : goal.loop-condition-init
loop-condition-init c = c.done-least.ensures.count ∙ sym (count_back-none c.args.journal.now)

pub count_to-least-requires-clause-within : goal.count_to-least-requires-clause-within
count_to-least-requires-clause-within c = rw c.loop-condition.invariant (count_back-within _ c.args.journal.now)

pub count_to-least-requires-clause-known : goal.count_to-least-requires-clause-known
count_to-least-requires-clause-known c =
    let below : c.loop-condition.condition-index < length c.args.watched.now = omega arith in
    last_known c.args.watched.now c.args.journal.now c.args.known.now c.loop-condition.condition-index c.condition-item.result below c.condition-item.is c.requires

pub loop-condition-preserved : goal.loop-condition-preserved
loop-condition-preserved c =
    count_back-more c.args.journal.now c.args.watched.now c.loop-condition.condition-index c.condition-item.result _ _ (omega arith) c.condition-item.is
    c.loop-condition.invariant c.count_to-least.ensures
