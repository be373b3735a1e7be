-- A run that is told in a table goes the way of the run that is printed.
use Rattle.std.proofs.Common.{◌≡◌, ◌≤◌, ◌+◌, ◌∙◌, ℕ, suc, None, Some, refl, sym, ap}
use Rattle.mix_machine.specs.Prelude.{TransfersState, no_transfers, transfers_after, WorldState}
use Rattle.mix_machine.specs.declared.old.Change.TheVariants.{Step}
use Rattle.mix_run.specs.Print.{Run, printed, steps_of}
use Rattle.mix_run.specs.Prelude.{PrintOptions, RunEnd}
use Rattle.mix_run.specs.StepTable.{StepWalks, unwatched}
use Rattle.mix_run.specs.declared.print.steps.RunEnd.TheVariants.{Halted, Faulted, Conflicting, UsedUp}
use Rattle.mix_run.proofs.PrintRunLemmas.{run-faulted, run-halted, run-none, run-on}

-- the steps that are left lead where the whole run leads
abbrev pub Rests : PrintOptions → ℕ → WorldState → Run → Type 0
Rests options left w whole =
    (number : ℕ) × (ts : TransfersState)
    × ((printed (unwatched options) number left ts w).end ≡ whole.end) × ((printed (unwatched options) number left ts w).world ≡ whole.world)

pub rests-first : (options : PrintOptions) (w : WorldState) → Rests options options.steps w (steps_of (unwatched options) w)
rests-first options w = (1, no_transfers, refl, refl)

-- by a step after which the run goes on
pub rests-on : (options : PrintOptions) (left rest : ℕ) (w next : WorldState) (whole : Run) → left ≡ suc rest → StepWalks w next None
    → Rests options left w whole → Rests options rest next whole
rests-on options left rest w next whole e step (number, ts, end, world) =
    let run = run-on (unwatched options) number left rest ts w next e refl step.0 step.1 in
    (number + 1, transfers_after ts w Step, sym (ap (λ r. r.end) run) ∙ end, sym (ap (λ r. r.world) run) ∙ world)

-- by one that ends it
pub rests-ended : (options : PrintOptions) (left rest : ℕ) (w next : WorldState) (end : RunEnd) (whole : Run) → left ≡ suc rest → StepWalks w next (Some end)
    → Rests options left w whole → (end ≡ whole.end) × (next ≡ whole.world)
rests-ended options left rest w next Halted whole e step (number, ts, end, world) =
    let run = run-halted (unwatched options) number left rest ts w next e refl step.0 step.1 in
    (sym (ap (λ r. r.end) run) ∙ end, sym (ap (λ r. r.world) run) ∙ world)
rests-ended options left rest w next (Faulted fault) whole e step (number, ts, end, world) =
    let run = run-faulted (unwatched options) number left rest ts w fault e step.0 in
    (sym (ap (λ r. r.end) run) ∙ end, step.1 ∙ sym (ap (λ r. r.world) run) ∙ world)
rests-ended options left rest w next (Conflicting conflict) whole e step rests = absurd step
rests-ended options left rest w next UsedUp whole e step rests = absurd step

-- no step is left
pub rests-none : (options : PrintOptions) (left : ℕ) (w : WorldState) (whole : Run) → left ≤ 0 → Rests options left w whole
    → (UsedUp ≡ whole.end) × (w ≡ whole.world)
rests-none options left w whole none (number, ts, end, world) =
    let run = run-none (unwatched options) number left ts w none in
    (sym (ap (λ r. r.end) run) ∙ end, sym (ap (λ r. r.world) run) ∙ world)
