-- What a run of a program prints: the rows that its steps write to the card punch, the printer, the typewriter and the paper tape; and the lines of
-- its steps, where it is traced, and the registers at its end, where they are asked for. And which of its steps conflict with a transfer under way, before the first of which a strict run ends.
use Rattle.std.specs.Prelude.{ℕ, zero, suc, Bool, ◌+◌, ◌==◌, nat_lt, List, [], ◌∷◌, ◌++◌, length, drop, reverse, flat_map, Option, Some, None, option_map, Result, Ok, Err, if◌then◌else◌}
use Rattle.mixal_asm.specs.Prelude.{SourceValue, Line, OfLiteral, OfName, ProgramValue, source_at}
use Rattle.mix_word.specs.Word.{WordValue}
use Rattle.mix_machine.specs.Prelude.{does, is_halt_next, TransfersState, conflict_of, no_transfers, transfers_after, WorldState, unit_at, RowState, UnitState}
use Rattle.mix_machine.specs.declared.fault.MixFault.{MixFault}
use Rattle.mix_machine.specs.declared.old.Change.TheVariants.{Step}
use Rattle.mix_machine.specs.declared.transfers.Conflict.{Conflict}
use Rattle.mix_session.specs.Prelude.{change_line, characters_text}
use Rattle.mix_session.specs.Show.{registers_text}
use Rattle.mix_run.specs.declared.print.options.PrintOptions.{PrintOptions}
use Rattle.mix_run.specs.declared.print.options.UnitSet.{UnitSet}
use Rattle.mix_run.specs.declared.print.steps.RunEnd.{RunEnd}
use Rattle.mix_run.specs.declared.print.steps.RunEnd.TheVariants.{Halted, Faulted, Conflicting, UsedUp}
use Rattle.mix_run.specs.declared.print.watch.ConflictAt.{ConflictAt}
use Rattle.mix_run.specs.declared.print.watch.Conflicts.{Conflicts}

-- a text without the blanks that it begins with
abbrev pub after_blanks : List ℕ → List ℕ
after_blanks [] = []
after_blanks (byte ∷ rest) = if byte == 32 then after_blanks rest else byte ∷ rest

-- a text without the blanks at its end
abbrev pub without_last_blanks : List ℕ → List ℕ
without_last_blanks text = reverse (after_blanks (reverse text))

-- words in characters, without the blanks at their end, and a line feed
abbrev pub printed_line : List WordValue → List ℕ
printed_line words = without_last_blanks (characters_text words) ++ 10 ∷ []

-- a row; a page mark is a form feed alone
abbrev pub printed_row : RowState → List ℕ
printed_row (Some words) = printed_line words
printed_row None = 12 ∷ []

-- the rows of a unit after the first ones, if it is asked for
abbrev pub printed_from : Bool → ℕ → UnitState → List ℕ
printed_from asked count u = if asked then flat_map printed_row (drop count u.rows) else []

-- what unit n wrote between two states, if it is asked for: the rows that stand in it after and not before
abbrev pub printed_by : Bool → WorldState → WorldState → ℕ → List ℕ
printed_by asked before after n = printed_from asked (length (unit_at before n).rows) (unit_at after n)

-- what the units that are asked for wrote between two states, one unit after the other
abbrev pub printed_between : UnitSet → WorldState → WorldState → List ℕ
printed_between units before after =
    printed_by units.card_punch before after 17 ++ (printed_by units.printer before after 18
    ++ (printed_by units.typewriter before after 19 ++ printed_by units.paper_tape before after 20))

-- the line of a step from a machine that was kept, as `trace` has it; none where none was
abbrev pub traced_line : Option WorldState → ℕ → WorldState → List ℕ
traced_line None number after = []
traced_line (Some before) number after = change_line number Step before after

abbrev pub if_asked : Bool → WorldState → Option WorldState
if_asked asked w = if asked then Some w else None

-- what a step of a number writes: its line, where it is traced, and then what was printed
abbrev pub written_by : PrintOptions → ℕ → WorldState → WorldState → List ℕ
written_by options number before after =
    traced_line (if_asked options.trace before) number after ++ printed_between options.units before after

-- a conflict of a step, with the location and the clock before it
abbrev pub conflict_at : WorldState → Conflict → ConflictAt
conflict_at w c = record { conflict = c; loc = w.loc; clock = w.clock }

-- what is there of one, as a list
abbrev pub listed : Option ConflictAt → List ConflictAt
listed None = []
listed (Some c) = c ∷ []

-- what a run prints, how it ends, the machine then, and the conflicts of its steps
pub record Run : Type 0 where
  pub bytes : List ℕ
  pub end : RunEnd
  pub world : WorldState
  pub met : List ConflictAt

-- a run that ends where it stands
abbrev pub ended : RunEnd → WorldState → Run
ended end w = record { bytes = []; end = end; world = w; met = [] }

-- what a step printed and its conflict, and then those of the rest of the run
abbrev pub printed_first : List ℕ → List ConflictAt → Run → Run
printed_first bytes met run = record run { bytes = bytes ++ run.bytes; met = met ++ run.met }

-- the conflict that ends a run before its step: in a strict one, that of the step
abbrev pub stops : Bool → Option Conflict → Option Conflict
stops strict met = if strict then met else None

-- a run, unless a conflict ends it
abbrev pub unless : Option Conflict → WorldState → Run → Run
unless None w run = run
unless (Some c) w run = ended (Conflicting c) w

-- a step that is made, with its conflict, if it has one, and then the rest of the run, unless the step is a halt
abbrev pub made_and_rest : PrintOptions → ℕ → WorldState → Option Conflict → WorldState → (WorldState → Run) → Run
made_and_rest options number w met next rest =
    printed_first (written_by options number w next) (listed (option_map (conflict_at w) met)) (if is_halt_next w then ended Halted next else rest next)

-- one step, from its conflict and from what it does, and then the rest of the run, unless the step is a fault or ends a strict run
abbrev pub step_and_rest : PrintOptions → ℕ → WorldState → Option Conflict → Result WorldState MixFault → (WorldState → Run) → Run
step_and_rest options number w met (Err fault) rest = ended (Faulted fault) w
step_and_rest options number w met (Ok next) rest = unless (stops options.strict met) w (made_and_rest options number w met next rest)

-- a run of so many steps at most, the first of which has this number, up to a halt, a fault or the end of a strict run, from the transfers that are
-- under way
abbrev pub printed : PrintOptions → ℕ → ℕ → TransfersState → WorldState → Run
printed options number zero ts w = ended UsedUp w
printed options number (suc steps) ts w =
    step_and_rest options number w (conflict_of ts w Step) (does w Step) (λ next. printed options (number + 1) steps (transfers_after ts w Step) next)

-- all steps of a machine
abbrev pub steps_of : PrintOptions → WorldState → Run
steps_of options w = printed options 1 options.steps no_transfers w

-- the lines of the registers, if they are asked for
abbrev pub registers_if : Bool → WorldState → List ℕ
registers_if asked w = if asked then registers_text w else []

-- a run, behind which the registers at its end are written, if they are asked for
abbrev pub with_registers : Bool → Run → Run
with_registers asked run = record run { bytes = run.bytes ++ registers_if asked run.world }

-- the whole run of a machine
abbrev pub run_of : PrintOptions → WorldState → Run
run_of options w = with_registers options.registers (steps_of options w)

abbrev pub first_of : List ConflictAt → Option ConflictAt
first_of [] = None
first_of (c ∷ cs) = Some c

-- how many conflicts there are, and the first of them
abbrev pub counted : List ConflictAt → Conflicts
counted met = record { count = length met; first = first_of met }

-- the number of a line of the source; a literal or a name that END brings in has none
abbrev pub line_number : Option SourceValue → Option ℕ
line_number None = None
line_number (Some (Line number text)) = Some number
line_number (Some (OfLiteral text)) = None
line_number (Some (OfName name)) = None

-- the line of the source that put the last word into the cell at a location
abbrev pub line_at : ProgramValue → ℕ → Option ℕ
line_at program loc = if nat_lt loc 4000 then line_number (source_at program loc) else None
