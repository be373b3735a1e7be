-- What steps that are done one after the other come to.
use Rattle.std.specs.Prelude.{◌≡◌, ℕ, ◌<◌, ◌≤◌, ◌&&◌, ◌⊎◌, Bool, true, false, List, ◌++◌, Result, Err, IsOk, OnOk, OnErr}
use Rattle.mix_refused.specs.declared.refused.Refused.{Refused}
use Rattle.mix_refused.specs.Refused.{IfFault, IfMemory}
use Rattle.undo_core.specs.Repeat.{Repeats, goes_unless}
use Rattle.mix_machine.specs.World.{WorldState, IsWorld}
use Rattle.mix_machine.specs.Do.{does, kept_values, IsReal, is_plain_next, is_step}
use Rattle.mix_machine.specs.declared.old.Change.TheVariants.{Step}
use Rattle.mix_machine.specs.declared.old.Old.{Old}
use Rattle.mix_machine.specs.declared.fault.MixFault.{MixFault}

-- whether a step goes on from a state: none that stops it, nor one that needs a look first
abbrev pub steps_on : (WorldState → Bool) → WorldState → Bool
steps_on stops w = goes_unless stops (λ v c. is_step c && is_plain_next v) w Step

-- So many steps lead from one state to another, and keep these values. None but the first needs a
-- look at the machine, or begins where one stops.
abbrev pub Steps : (WorldState → Bool) → ℕ → WorldState → WorldState → List Old → Type 0
Steps stops n before after kept =
    Repeats (λ w c. IsWorld w × IsReal c) does kept_values (goes_unless stops (λ w c. is_step c && is_plain_next w)) Step n before after kept

-- So many steps are done, and what they replace is kept; there are no more, as they are as many as
-- may be, or the next needs a look at the machine, or the last leads where one stops, or one more
-- was tried and has a fault, or no memory is left.
pub record Stepped {T : Type 0} (stops : WorldState → Bool) (most : ℕ) (before after : WorldState) (olds news : List Old) (n : ℕ) (answer : Result T (Refused MixFault)) : Type 0 where
  pub within : n ≤ most
  pub done : (kept : List Old) × (news ≡ olds ++ kept) × Steps stops n before after kept
  pub all : OnOk answer ((0 < n) × ((n ≡ most) ⊎ (steps_on stops after ≡ false)))
  pub left : OnErr answer (n < most)
  pub going : OnErr answer (0 < n → steps_on stops after ≡ true)
  pub fault : IfFault answer (λ f. does after Step ≡ Err f)
  pub last : IfMemory answer (IsOk (does after Step))
