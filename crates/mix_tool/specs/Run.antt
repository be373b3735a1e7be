-- What a run of a plan writes, answers and keeps, and which map it draws: functions of what it asks for and of its texts.
use Rattle.std.specs.Prelude.{◌≡◌, ℕ, Bool, List, [], Option, None, Some, option_map, is_some, string_bytes, Result, Ok, Err, if◌then◌else◌}
use Rattle.std.specs.Io.KnownBytes.{Appends, Keeps}
use Rattle.mix_files.specs.Bundle.{parts_of}
use Rattle.mixal_asm.specs.Prelude.{assembly, ProgramValue}
use Rattle.mixal_asm.specs.declared.fault.AsmFault.{AsmFault}
use Rattle.mix_machine.specs.Prelude.{UnitsState, deck_of, text_of_unit}
use Rattle.mix_machine.specs.declared.units.deck_fault.DeckFault.{DeckFault}
use Rattle.mix_plan.specs.declared.run.AskedTable.{AskedTable}
use Rattle.mix_plan.specs.declared.run.RunPlan.{RunPlan}
use Rattle.mix_plan.specs.declared.run.TableFormat.{TableFormat}
use Rattle.mix_plan.specs.declared.run.TableFormat.TheVariants as format
use Rattle.mix_plan.specs.declared.run.TableOf.{TableOf}
use Rattle.mix_plan.specs.declared.run.TableOf.TheVariants as rows
use Rattle.mix_plan.specs.declared.run.UnitSet.{UnitSet}
use Rattle.mix_run.specs.Prelude.{DrawnRun, deck_given}
use Rattle.mix_run.specs.declared.fault.ToolFault.{ToolFault}
use Rattle.mix_run.specs.declared.print.PrintAnswer.TheVariants.{Refused}
use Rattle.mix_run.specs.declared.print.Printed.{Printed}
use Rattle.mix_run.specs.declared.print.options.PrintOptions.{PrintOptions}
use Rattle.mix_run.specs.PrintOutput.{Answered, PrintOutcome, UnitsRefused, bytes_of, outcome_of_run}
use Rattle.mix_run.specs.declared.fault.ToolFault.TheVariants as faults
use Rattle.mix_run.specs.declared.print.options.AskedTable.{AskedTable as RunTable}
use Rattle.mix_run.specs.declared.print.options.TableOf.{TableOf as RunRows}
use Rattle.mix_run.specs.declared.print.options.TableOf.TheVariants as of
use Rattle.mix_run.specs.declared.print.options.UnitSet.{UnitSet as RunUnits}
use Rattle.mix_run.specs.declared.table.TableFormat.{TableFormat as RunFormat}
use Rattle.mix_run.specs.declared.table.TableFormat.TheVariants as table
use Rattle.mix_stream.specs.Stream.{AppendsFront}
use Rattle.mix_tool.specs.declared.read.TextUnit.{TextUnit}
use Rattle.mix_tool.specs.declared.read.TextUnit.TheVariants as text_unit

-- the texts of a plan: one that has no file is empty
pub record Given : Type 0 where
  pub source : List ℕ
  pub deck : List ℕ
  pub cards : List ℕ
  pub typewriter : List ℕ
  pub script : List ℕ

-- what is asked of a run
abbrev pub units_of : UnitSet → RunUnits
units_of units =
    record { card_punch = units.card_punch; printer = units.printer; typewriter = units.typewriter; paper_tape = units.paper_tape }

-- the form of a table
abbrev pub format_of : TableFormat → RunFormat
format_of format.Csv = table.Csv
format_of format.Json = table.Json
format_of format.Latex = table.Latex

-- what a table is of
abbrev pub rows_of : TableOf → RunRows
rows_of rows.Counts = of.Counts
rows_of rows.Formulas = of.Formulas
rows_of rows.Trace = of.Trace
rows_of rows.Writes = of.Writes

abbrev pub table_of : AskedTable → RunTable
table_of asked = record { of = rows_of asked.of; format = format_of asked.format }

-- what a table is about: the part whose changes it has, or the values of names; no text is the name of none, and gives none
abbrev pub subject_of : Option (List ℕ) → List ℕ
subject_of None = []
subject_of (Some subject) = subject

abbrev pub options_of : RunPlan → PrintOptions
options_of run =
    record {
      steps = run.steps;
      units = units_of run.units;
      trace = run.trace;
      registers = run.registers;
      strict = run.strict;
      keep = is_some run.keep;
      table = option_map table_of run.table;
      map = is_some run.svg;
    }

-- a unit whose lines may be read from a text
abbrev pub number_of : TextUnit → ℕ
number_of text_unit.Cards = 16
number_of text_unit.Typewriter = 19

-- the lines of a text, if there is one, for a unit of those that were read before
abbrev pub with_text : ℕ → Result UnitsState DeckFault → Bool → List ℕ → Result UnitsState DeckFault
with_text unit (Err fault) given text = Err fault
with_text unit (Ok units) given text = if given then text_of_unit units unit text else Ok units

-- the units of the deck that is named, or otherwise of that of the bundle, with the cards and the lines for the typewriter, if they are named
abbrev pub units_asked : RunPlan → List ℕ → Given → Result UnitsState DeckFault
units_asked run own given =
    with_text 19 (with_text 16 (deck_of (deck_given (is_some run.devices) own given.deck)) (is_some run.cards) given.cards) (is_some run.typewriter) given.typewriter

-- an assembled source, with its units
abbrev pub print_outcome : List ℕ → PrintOptions → List ℕ → Result ProgramValue AsmFault → Result UnitsState DeckFault → PrintOutcome
print_outcome text options subject (Err fault) units = Answered [] (Refused fault) []
print_outcome text options subject (Ok program) (Err fault) = UnitsRefused fault
print_outcome text options subject (Ok program) (Ok units) = outcome_of_run text options subject program units

-- what a run of a plan writes, answers and keeps, by its texts: a source or a bundle, and those that are named beside it; a table
-- is any text
unfoldable pub run_output : List ℕ → RunPlan → Given → PrintOutcome
run_output text run given =
    let parts = parts_of given.source in
    print_outcome text (options_of run) (subject_of (option_map string_bytes run.subject)) (assembly parts.source) (units_asked run parts.deck given)

-- and which map it draws
abbrev pub DrawnProgram : PrintOptions → List ℕ → Result ProgramValue AsmFault → Result UnitsState DeckFault → List ℕ → Type 0
DrawnProgram options subject (Err fault) units map = map ≡ []
DrawnProgram options subject (Ok program) (Err fault) map = map ≡ []
DrawnProgram options subject (Ok program) (Ok units) map = DrawnRun options subject program units map

unfoldable pub run_draws : RunPlan → Given → List ℕ → Type 0
run_draws run given map =
    let parts = parts_of given.source in
    DrawnProgram (options_of run) (subject_of (option_map string_bytes run.subject)) (assembly parts.source) (units_asked run parts.deck given) map

-- What a call answers, writes and keeps is the outcome. Where memory is refused, or a write fails, a beginning of its bytes has been written;
-- where a read fails, none.
abbrev pub Prints : PrintOutcome → Result Printed ToolFault → Option (List ℕ) → Option (List ℕ) → Type 0
Prints outcome (Ok printed) old new = (outcome ≡ Answered (bytes_of outcome) printed.answer printed.deck.items) × Appends old new (bytes_of outcome)
Prints outcome (Err (faults.Deck fault)) old new = (outcome ≡ UnitsRefused fault) × Keeps old new
Prints outcome (Err faults.Long) old new = ⊥
Prints outcome (Err faults.Memory) old new = AppendsFront old new (bytes_of outcome)
Prints outcome (Err faults.Write) old new = AppendsFront old new (bytes_of outcome)
Prints outcome (Err faults.Read) old new = Keeps old new
