-- A run leaves the same deck, whatever text its table is.
use Rattle.std.specs.Prelude.{◌≡◌, ℕ, Bool, true, false, List, [], Option, None, Some, Result, Ok, Err}
use Rattle.std.proofs.Common.{refl}
use Rattle.mixal_asm.specs.Program.{ProgramValue}
use Rattle.mix_machine.specs.Prelude.{loaded, UnitsState}
use Rattle.mix_session.specs.declared.fault.Refusal.{Refusal}
use Rattle.mix_session.specs.Session.{opened}
use Rattle.mix_run.specs.Counted.{counted_run, end_table_asked}
use Rattle.mix_run.specs.PrintOutput.{counted_outcome, kept_of, outcome_by, outcome_of_run, printed_outcome, told_by}
use Rattle.mix_run.specs.StepTable.{step_table}
use Rattle.mix_run.specs.declared.print.options.PrintOptions.{PrintOptions}
use Rattle.mix_run.specs.declared.print.tabled.StepTable.{StepTable}

pub kept-of_run : (text : List ℕ) (options : PrintOptions) (subject : List ℕ) (program : ProgramValue) (units : UnitsState)
    → kept_of (outcome_of_run text options subject program units) ≡ kept_of (outcome_of_run [] options subject program units)
unfolding outcome_of_run counted_outcome counted_run printed_outcome
kept-of_run text options subject program units = go (end_table_asked options.table subject)
  where
    told : (table : Result (Option StepTable) Refusal)
        → kept_of (told_by text options program (loaded program.words program.start units) table)
        ≡ kept_of (told_by [] options program (loaded program.words program.start units) table)
    told (Err refusal) = refl
    told (Ok None) = refl
    told (Ok (Some table)) = refl

    go : (asked : Result Bool Refusal)
        → kept_of (outcome_by text asked options subject program units) ≡ kept_of (outcome_by [] asked options subject program units)
    go (Err refusal) = refl
    go (Ok true) = refl
    go (Ok false) = told (step_table options.table subject (opened program units))
