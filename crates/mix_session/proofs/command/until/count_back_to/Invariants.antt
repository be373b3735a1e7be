use Rattle.std.proofs.Common.{◌≡◌, ◌+◌, ◌<◌, ℕ, length, false}
use Rattle.mix_machine.specs.Prelude.{WorldState, IsPart}
use Rattle.mix_session.specs.Condition.{watched}
use Rattle.mix_session.proofs.ConditionLemmas.{IsSeen, is_met_back}
use Rattle.mix_session.proofs.command.until.count_back_to.Given as goal

abbrev pub invariant-loop-count : goal.invariant-loop-count
invariant-loop-count l = record {
  real : IsPart (watched l.condition);
  seen : (w : WorldState) × IsSeen l.journal l.condition l.count l.mark w;
  of : l.past.of ≡ l.journal;
  left : l.past.left + l.count ≡ length l.journal.changes;
  none : (j : ℕ) → j < l.count → is_met_back l.condition l.journal j ≡ false;
}
