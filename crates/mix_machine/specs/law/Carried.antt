-- What carrying out the plan of a change comes to, of the state and of the values kept.
use Rattle.std.specs.Prelude.{◌≡◌, ◌++◌, List, Result, Ok, Err, IsOk, OnOk, OnErr}
use Rattle.mix_refused.specs.declared.refused.Refused.{Refused}
use Rattle.mix_refused.specs.Refused.{IfFault, IfMemory}
use Rattle.mix_machine.specs.World.{WorldState}
use Rattle.mix_machine.specs.Do.{state_after, values_kept}
use Rattle.mix_machine.specs.declared.plan.Plan.{Plan}
use Rattle.mix_machine.specs.declared.old.Old.{Old}
use Rattle.mix_machine.specs.declared.fault.MixFault.{MixFault}

-- The plan is done, and what it replaces is kept; or its fault is the answer, or that no memory is left, and
-- nothing is altered.
pub record Carried {T : Type 0} (plan : Result Plan MixFault) (before after : WorldState) (olds news : List Old) (answer : Result T (Refused MixFault)) : Type 0 where
  pub given : OnOk answer (state_after before plan ≡ Ok after)
  pub kept : OnOk answer (news ≡ olds ++ values_kept before plan)
  pub fault : IfFault answer (λ f. state_after before plan ≡ Err f)
  pub last : IfMemory answer (IsOk (state_after before plan))
  pub same : OnErr answer (after ≡ before)
  pub same_kept : OnErr answer (news ≡ olds)
