-- What a run of a program writes, answers and keeps: a function of the program, its units, and what is asked for.
use Rattle.std.specs.Prelude.{◌≡◌, ℕ, Bool, true, false, Option, None, Some, option_and_then, List, [], Result, Ok, Err}
use Rattle.mixal_asm.specs.Program.{ProgramValue}
use Rattle.mix_machine.specs.Prelude.{loaded, WorldState, UnitsState}
use Rattle.mix_machine.specs.declared.units.deck_fault.DeckFault.{DeckFault}
use Rattle.mix_run.specs.declared.fault.ToolFault.{ToolFault}
unfoldable pub use Rattle.mix_files.specs.Bundle.{parts_of}
use Rattle.mix_run.specs.Counted.{counted_run, end_table_asked}
use Rattle.mix_run.specs.Keep.{kept_if}
use Rattle.mix_run.specs.Print.{Run, counted, line_at}
use Rattle.mix_run.specs.StepTable.{run_told, step_table}
use Rattle.mix_run.specs.Writes.{Writes}
use Rattle.mix_run.specs.declared.print.PrintAnswer.{PrintAnswer}
use Rattle.mix_run.specs.declared.print.PrintAnswer.TheVariants.{NoTable, Ran}
use Rattle.mix_run.specs.declared.print.Printed.{Printed}
use Rattle.mix_run.specs.declared.print.loaded.RanTo.{RanTo}
use Rattle.mix_run.specs.declared.print.options.PrintOptions.{PrintOptions}
use Rattle.mix_run.specs.declared.print.steps.RunEnd.{RunEnd}
use Rattle.mix_run.specs.declared.print.tabled.StepTable.{StepTable}
use Rattle.mix_run.specs.declared.print.watch.Conflicts.{Conflicts}
use Rattle.mix_session.specs.declared.fault.Refusal.{Refusal}
use Rattle.mix_session.specs.Session.{opened}

-- how a run ends: with these bytes, this answer and this deck, or, with no byte written, for its deck or a text of a unit
pub data PrintOutcome : Type 0 where
  Answered : List ℕ → PrintAnswer → List ℕ → PrintOutcome
  UnitsRefused : DeckFault → PrintOutcome

-- where a program came to: how it ended, the machine then, and the conflicts
abbrev pub came_to : ProgramValue → RunEnd → WorldState → Conflicts → RanTo
came_to program end w conflicts = record {
  end = end;
  loc = w.loc;
  clock = w.clock;
  line = line_at program w.loc;
  conflicts = conflicts;
  conflict_line = option_and_then (λ c. line_at program c.loc) conflicts.first;
}

abbrev pub ran_to : ProgramValue → Run → RanTo
ran_to program run = came_to program run.end run.world (counted run.met)

-- what is answered of a run
abbrev pub answered : PrintOptions → ProgramValue → Run → PrintOutcome
answered options program run = Answered run.bytes (Ran (ran_to program run)) (kept_if options.keep run.world)

-- a run told by what it prints or by a table of its steps, of any text; nothing is run where the part that the table is of is none
abbrev pub told_by : List ℕ → PrintOptions → ProgramValue → WorldState → Result (Option StepTable) Refusal → PrintOutcome
told_by text options program w (Ok table) = answered options program (run_told text table options w)
told_by text options program w (Err refusal) = Answered [] (NoTable refusal) []

-- a program run on the machine that it is loaded into, with its units
unfoldable pub printed_outcome : List ℕ → PrintOptions → List ℕ → ProgramValue → UnitsState → PrintOutcome
printed_outcome text options part program units =
    told_by text options program (loaded program.words program.start units) (step_table options.table part (opened program units))

-- the same in a session, with its steps counted
unfoldable pub counted_outcome : List ℕ → PrintOptions → ProgramValue → UnitsState → PrintOutcome
counted_outcome text options program units = answered options program (counted_run text options.steps (opened program units))

-- nothing is run where the values of names cannot be read by which the formulas are to be checked
abbrev pub outcome_by : List ℕ → Result Bool Refusal → PrintOptions → List ℕ → ProgramValue → UnitsState → PrintOutcome
outcome_by text (Err refusal) options subject program units = Answered [] (NoTable refusal) []
outcome_by text (Ok false) options subject program units = printed_outcome text options subject program units
outcome_by text (Ok true) options subject program units = counted_outcome text options program units

-- which of them is asked for, and of which part or by which values
unfoldable pub outcome_of_run : List ℕ → PrintOptions → List ℕ → ProgramValue → UnitsState → PrintOutcome
outcome_of_run text options subject program units = outcome_by text (end_table_asked options.table subject) options subject program units

-- the bytes that an outcome writes
abbrev pub bytes_of : PrintOutcome → List ℕ
bytes_of (Answered bytes answer kept) = bytes
bytes_of (UnitsRefused fault) = []

-- the deck of what the units hold at the end
abbrev pub kept_of : PrintOutcome → List ℕ
kept_of (Answered bytes answer kept) = kept
kept_of (UnitsRefused fault) = []

-- What a run of a program has written and left: all that the outcome says, and a map that is drawn as it is to be; or, broken off, a beginning.
abbrev pub Leaves : PrintOutcome → (List ℕ → Type 0) → Result Printed ToolFault → Option (List ℕ) → ℕ → Option (List ℕ) → ℕ → Type 0
Leaves outcome IsDrawn result old failed new failed_new =
    Writes (bytes_of outcome) (λ p. (outcome ≡ Answered (bytes_of outcome) p.answer p.deck.items) × IsDrawn p.map.items) result old failed new failed_new
