-- Whether a run draws a map: if that is asked for, and if it is run at all. A map is a picture, so that the next one may replace its file.
use Rattle.std.specs.Prelude.{◌≡◌, Bool, true, false, List, ℕ, [], Option, Result, Ok, Err}
use Rattle.mixal_asm.specs.Program.{ProgramValue}
use Rattle.mix_machine.specs.units.Units.{UnitsState}
use Rattle.mix_session.specs.declared.fault.Refusal.{Refusal}
use Rattle.mix_session.specs.Session.{opened}
use Rattle.mix_run.specs.Counted.{end_table_asked}
use Rattle.mix_run.specs.Opening.{is_picture}
use Rattle.mix_run.specs.StepTable.{step_table}
use Rattle.mix_run.specs.declared.print.options.PrintOptions.{PrintOptions}
use Rattle.mix_run.specs.declared.print.tabled.StepTable.{StepTable}

-- a picture, if it is asked for, and else nothing
abbrev pub DrawnIf : Bool → List ℕ → Type 0
DrawnIf true map = is_picture map ≡ true
DrawnIf false map = map ≡ []

-- a run for which a map is drawn: it is asked for, and no part of which a table is to be is none
abbrev pub is_drawn : Bool → Result (Option StepTable) Refusal → Bool
is_drawn map (Ok table) = map
is_drawn map (Err refusal) = false

abbrev pub DrawnSteps : PrintOptions → List ℕ → ProgramValue → UnitsState → List ℕ → Type 0
DrawnSteps options part program units map = DrawnIf (is_drawn options.map (step_table options.table part (opened program units))) map

-- nothing is run, and nothing drawn, where the values of names cannot be read by which the formulas are to be checked
abbrev pub DrawnBy : Result Bool Refusal → PrintOptions → List ℕ → ProgramValue → UnitsState → List ℕ → Type 0
DrawnBy (Ok table) options subject program units map = DrawnSteps options subject program units map
DrawnBy (Err refusal) options subject program units map = map ≡ []

abbrev pub DrawnRun : PrintOptions → List ℕ → ProgramValue → UnitsState → List ℕ → Type 0
DrawnRun options subject program units map = DrawnBy (end_table_asked options.table subject) options subject program units map
