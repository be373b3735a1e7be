-- A run that is told in a table: a row for each step, or for each that altered a part of the machine. How a table is set has no definition.
use Rattle.std.specs.Prelude.{◌≡◌, ℕ, true, false, List, ◌++◌, codes, Option, Some, None, Result, Ok, Err, []}
use Rattle.mix_machine.specs.Prelude.{does, is_halt_next, WorldState}
use Rattle.mix_machine.specs.declared.old.Change.TheVariants.{Step}
use Rattle.mix_machine.specs.declared.part.Part.{Part}
use Rattle.mix_session.specs.Prelude.{condition_at, SessionState}
use Rattle.mix_session.specs.declared.condition.Condition.{Condition}
use Rattle.mix_session.specs.declared.condition.Condition.TheVariants.{Alters, At, Conflicts}
use Rattle.mix_session.specs.declared.fault.Refusal.{Refusal}
use Rattle.mix_session.specs.declared.fault.Refusal.TheVariants.{BadArgument}
use Rattle.mix_run.specs.Print.{Run, run_of, steps_of}
use Rattle.mix_run.specs.declared.print.options.AskedTable.{AskedTable}
use Rattle.mix_run.specs.declared.print.options.PrintOptions.{PrintOptions}
use Rattle.mix_run.specs.declared.print.options.TableOf.{TableOf}
use Rattle.mix_run.specs.declared.print.options.TableOf.TheVariants as of
use Rattle.mix_run.specs.declared.print.steps.RunEnd.{RunEnd}
use Rattle.mix_run.specs.declared.print.steps.RunEnd.TheVariants.{Halted, Faulted, Conflicting, UsedUp}
use Rattle.mix_run.specs.declared.print.tabled.StepTable.{StepTable}

-- what is asked of a run of which no conflict is looked for
abbrev pub unwatched : PrintOptions → PrintOptions
unwatched options = record options { strict = false }

-- the run of a table: it ends where the run that is printed ends, if that is not strict, and leaves the same machine; its table is any text
abbrev pub tabled_run : List ℕ → PrintOptions → WorldState → Run
tabled_run text options w =
    let run = steps_of (unwatched options) w in
    record { bytes = text; end = run.end; world = run.world; met = [] }

-- the run of a machine, told in a table if one is asked for, and else by what it prints
abbrev pub run_told : List ℕ → Option StepTable → PrintOptions → WorldState → Run
run_told text None options w = run_of options w
run_told text (Some table) options w = tabled_run text options w

-- ---- what is asked for

-- the part that a condition is on, if it is one that it alters
abbrev pub part_of : Result Condition Refusal → Result Part Refusal
part_of (Ok (Alters part)) = Ok part
part_of (Ok (At place)) = Err BadArgument
part_of (Ok Conflicts) = Err BadArgument
part_of (Err refusal) = Err refusal

abbrev pub or_else : Result Part Refusal → Result Part Refusal → Result Part Refusal
or_else (Err BadArgument) other = other
or_else one other = one

-- the part that a text names, as in `show writes`, where `cell` may be left out
abbrev pub part_named : SessionState → List ℕ → Result Part Refusal
part_named s text = or_else (part_of (condition_at s text)) (part_of (condition_at s (codes "cell " ++ text)))

abbrev pub with_part : AskedTable → Result Part Refusal → Result (Option StepTable) Refusal
with_part asked (Ok part) = Ok (Some (record { format = asked.format; part = Some part }))
with_part asked (Err refusal) = Err refusal

abbrev pub table_of : TableOf → AskedTable → Result Part Refusal → Result (Option StepTable) Refusal
table_of of.Counts asked part = Ok None
table_of of.Formulas asked part = Ok None
table_of of.Trace asked part = Ok (Some (record { format = asked.format; part = None }))
table_of of.Writes asked part = with_part asked part

-- the table of steps that is asked for, if one is; why the part is none
abbrev pub table_by : Option AskedTable → Result Part Refusal → Result (Option StepTable) Refusal
table_by None part = Ok None
table_by (Some asked) part = table_of asked.of asked part

unfoldable pub step_table : Option AskedTable → List ℕ → SessionState → Result (Option StepTable) Refusal
step_table asked text s = table_by asked (part_named s text)

-- ---- what the function of one step says

-- what a step does, with the end that it is, if it is one
abbrev pub StepWalks : WorldState → WorldState → Option RunEnd → Type 0
StepWalks w next None = (does w Step ≡ Ok next) × (is_halt_next w ≡ false)
StepWalks w next (Some Halted) = (does w Step ≡ Ok next) × (is_halt_next w ≡ true)
StepWalks w next (Some (Faulted fault)) = (does w Step ≡ Err fault) × (next ≡ w)
StepWalks w next (Some (Conflicting c)) = ⊥
StepWalks w next (Some UsedUp) = ⊥
