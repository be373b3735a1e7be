-- What the function of one step says.
use Rattle.std.specs.Prelude.{◌≡◌, ◌+◌, ℕ, Bool, true, false, List, [], ◌++◌, length, option_map, Option, Some, None, Result, Ok, Err}
use Rattle.std.specs.Option.{option_or}
use Rattle.mix_machine.specs.Prelude.{does, is_halt_next, TransfersState, conflict_of, transfer_by, transfers_after, WorldState, unit_at}
use Rattle.mix_machine.specs.declared.transfers.Conflict.{Conflict}
use Rattle.mix_machine.specs.declared.fault.MixFault.{MixFault}
use Rattle.mix_machine.specs.declared.old.Change.TheVariants.{Step}
use Rattle.mix_run.specs.Print.{conflict_at, first_of, if_asked, listed, printed_from, traced_line, written_by}
use Rattle.mix_run.specs.declared.print.options.PrintOptions.{PrintOptions}
use Rattle.mix_run.specs.declared.print.options.UnitSet.{UnitSet}
use Rattle.mix_run.specs.declared.print.rows.RowCounts.{RowCounts}
use Rattle.mix_run.specs.declared.print.steps.RunEnd.{RunEnd}
use Rattle.mix_run.specs.declared.print.steps.RunEnd.TheVariants.{Halted, Faulted, Conflicting, UsedUp}
use Rattle.mix_run.specs.declared.print.watch.ConflictAt.{ConflictAt}
use Rattle.mix_run.specs.declared.print.watch.Conflicts.{Conflicts}

-- the numbers of the rows of a state
pub record HasCounts (w : WorldState) (counts : RowCounts) : Type 0 where
  pub card_punch : counts.card_punch ≡ length (unit_at w 17).rows
  pub printer : counts.printer ≡ length (unit_at w 18).rows
  pub typewriter : counts.typewriter ≡ length (unit_at w 19).rows
  pub paper_tape : counts.paper_tape ≡ length (unit_at w 20).rows

-- the rows of a state after so many, of the units that are asked for
abbrev pub printed_after : UnitSet → RowCounts → WorldState → List ℕ
printed_after units counts w =
    printed_from units.card_punch counts.card_punch (unit_at w 17) ++ (printed_from units.printer counts.printer (unit_at w 18)
    ++ (printed_from units.typewriter counts.typewriter (unit_at w 19) ++ printed_from units.paper_tape counts.paper_tape (unit_at w 20)))

-- what the machine is after a step: the next state, or with its fault the one before
abbrev pub HasStepped : WorldState → WorldState → Option MixFault → Type 0
HasStepped w next None = does w Step ≡ Ok next
HasStepped w next (Some fault) = (does w Step ≡ Err fault) × (next ≡ w)

abbrev pub line_to : Bool → ℕ → WorldState → Result WorldState MixFault → List ℕ
line_to trace number w (Ok next) = traced_line (if_asked trace w) number next
line_to trace number w (Err fault) = []

-- the line of one step, if it is traced
abbrev pub line_bytes : Bool → ℕ → WorldState → List ℕ
line_bytes trace number w = line_to trace number w (does w Step)

-- what a step does that is made and has written, with the end that it is, if it is one
abbrev pub StepMakes : PrintOptions → ℕ → WorldState → WorldState → Option RunEnd → List ℕ → List ℕ → Type 0
StepMakes options number w next None old new = (does w Step ≡ Ok next) × (is_halt_next w ≡ false) × (new ≡ old ++ written_by options number w next)
StepMakes options number w next (Some Halted) old new = (does w Step ≡ Ok next) × (is_halt_next w ≡ true) × (new ≡ old ++ written_by options number w next)
StepMakes options number w next (Some (Faulted fault)) old new = (does w Step ≡ Err fault) × (next ≡ w) × (new ≡ old)
StepMakes options number w next (Some (Conflicting c)) old new = ⊥
StepMakes options number w next (Some UsedUp) old new = ⊥

-- the next step is no halt, makes nothing of a transfer and alters no unit
pub record IsPlain (w : WorldState) : Type 0 where
  pub goes_on : is_halt_next w ≡ false
  pub still : transfer_by w Step ≡ None
  pub units : (next : WorldState) → does w Step ≡ Ok next → next.units ≡ w.units

-- whether a step with this end was made: it is no fault
abbrev pub is_made : Option RunEnd → Bool
is_made None = true
is_made (Some Halted) = true
is_made (Some (Faulted fault)) = false
is_made (Some (Conflicting c)) = false
is_made (Some UsedUp) = false

-- Before a step of a strict run that conflicts: the machine stays as it is, and nothing is written.
abbrev pub StepStops : WorldState → WorldState → RunEnd → Conflict → Type 0
StepStops w next (Faulted fault) c = (does w Step ≡ Err fault) × (next ≡ w)
StepStops w next (Conflicting met) c = ((done : WorldState) × (does w Step ≡ Ok done)) × (met ≡ c) × (next ≡ w)
StepStops w next Halted c = ⊥
StepStops w next UsedUp c = ⊥

-- what one step of a run does and has written, by the conflict that ends the run before it, if one does
abbrev pub StepPrints : Option Conflict → PrintOptions → ℕ → WorldState → WorldState → Option RunEnd → List ℕ → List ℕ → Type 0
StepPrints None options number w next end old new = StepMakes options number w next end old new
StepPrints (Some c) options number w next None old new = ⊥
StepPrints (Some c) options number w next (Some end) old new = StepStops w next end c × (new ≡ old)

-- conflicts and more of them
abbrev pub conflicts_after : Conflicts → List ConflictAt → Conflicts
conflicts_after conflicts met = record { count = conflicts.count + length met; first = option_or conflicts.first (first_of met) }

-- what a step leaves of the transfers and the conflicts: those after it, if it was made, and else those before it
abbrev pub StepNotes : WorldState → TransfersState → Conflicts → TransfersState → Conflicts → Option RunEnd → Type 0
StepNotes w ts conflicts after noted None =
    (after ≡ transfers_after ts w Step) × (noted ≡ conflicts_after conflicts (listed (option_map (conflict_at w) (conflict_of ts w Step))))
StepNotes w ts conflicts after noted (Some Halted) =
    (after ≡ transfers_after ts w Step) × (noted ≡ conflicts_after conflicts (listed (option_map (conflict_at w) (conflict_of ts w Step))))
StepNotes w ts conflicts after noted (Some (Faulted fault)) = (after ≡ ts) × (noted ≡ conflicts)
StepNotes w ts conflicts after noted (Some (Conflicting c)) = (after ≡ ts) × (noted ≡ conflicts)
StepNotes w ts conflicts after noted (Some UsedUp) = ⊥
