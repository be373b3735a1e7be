-- The changes up to the one that meets the condition are taken back, or none.
use Rattle.std.proofs.Common.{refl}
use Rattle.mix_session.proofs.CommandLemmas.{broken-none, if_err}
use Rattle.mix_session.proofs.UntilLemmas.{back_until-found, back_until-none, taken-effect, Begun-back, effect-err}
use Rattle.mix_session.specs.Prelude.{has_conflict, Back}
use Rattle.mix_session.proofs.command.until.back_until.Goals as goal

pub returns-in_err-known-clause-effect : goal.returns-in_err-known-clause-effect
returns-in_err-known-clause-effect c =
    effect-err _ c.args.journal.now c.args.journal.now _ c.from_residual.ensures.0 refl
    (Begun-back c.args.conditions.now c.args.journal.now (rw c.as_slice-watched.ensures.is at c.in_err-known.ensures.memory))

pub count_back-count-requires : goal.count_back-count-requires
count_back-count-requires c = c.in_ok-known.ensures.known Back

pub returns-then-count-all-clause-effect : goal.returns-then-count-all-clause-effect
returns-then-count-all-clause-effect c =
    let below = rw c.done-all.ensures.count at c.if-count-all.true in
    rw (back_until-found c.args.conditions.now c.args.journal.now _ (rw c.as_slice-watched.ensures.is at c.count_back-count.ensures) below)
    (taken-effect (has_conflict c.args.conditions.now) c.args.journal.now _ _ c.go_back.ensures)

pub returns-else-count-all-clause-effect : goal.returns-else-count-all-clause-effect
returns-else-count-all-clause-effect c =
    rw (back_until-none c.args.conditions.now c.args.journal.now _ (rw c.as_slice-watched.ensures.is at c.count_back-count.ensures) (rw c.done-all.ensures.count at c.if-count-all.false)) (refl, refl, refl)

pub returns-in_err-known-clause-memory : goal.returns-in_err-known-clause-memory
returns-in_err-known-clause-memory c =
    if_err c.from_residual.result _ (broken-none (has_conflict c.args.conditions.now) _ c.args.journal.now
    (rw c.as_slice-watched.ensures.is at c.in_err-known.ensures.memory))
