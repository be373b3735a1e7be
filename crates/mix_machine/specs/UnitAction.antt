-- What the operations of the units use of a unit, and when each fault of a unit applies (1.3.1, "Input-output
-- operators").
use Rattle.std.specs.Prelude.{ℕ, ◌+◌, ◌-◌, max, Bool, true, false, not, ◌&&◌, ◌||◌, ◌==◌, nat_le, nat_lt, length, Option, Some, None, if◌then◌else◌}
use Rattle.std.specs.Option.{is_some}
use Rattle.mix_word.specs.Prelude.{WordValue, is_plus, is_natural, needs}
use Rattle.mix_word.specs.declared.operation.Operation.{Operation}
use Rattle.mix_word.specs.declared.uses.UnitUse.{UnitUse}
use Rattle.mix_word.specs.declared.uses.UnitUse.TheVariants.{Looks, Controls, Reads, Writes}
use Rattle.mix_machine.specs.World.{WorldState, unit_at}
use Rattle.mix_machine.specs.Jump.{is_positive}
use Rattle.mix_machine.specs.units.UnitKind.{has_place, has_medium, has_output}
use Rattle.mix_machine.specs.units.Unit.{UnitState, most_entries}
use Rattle.mix_machine.specs.declared.units.kind.UnitKind.{UnitKind}
use Rattle.mix_machine.specs.declared.units.kind.UnitKind.TheVariants.{Tape, Disk, CardReader, CardPunch, Printer, Typewriter, PaperTape}

-- what is done with the unit F, if anything
abbrev pub use_of : Operation → Option UnitUse
use_of op = (needs op).unit

-- F has to be a unit
abbrev pub needs_unit : Operation → Bool
needs_unit op = is_some (use_of op)

-- whether the last transfer of a unit is not over yet at this clock
abbrev pub is_busy : WorldState → ℕ → Bool
is_busy w n = nat_lt w.clock (unit_at w n).until

-- a transfer begins at once, or when the last one of its unit is over
abbrev pub transfer_start : WorldState → ℕ → ℕ
transfer_start w n = max w.clock (unit_at w n).until

abbrev pub start_of : Option UnitUse → WorldState → ℕ → ℕ
start_of None w n = w.clock
start_of (Some Looks) w n = w.clock
start_of (Some Controls) w n = transfer_start w n
start_of (Some Reads) w n = transfer_start w n
start_of (Some Writes) w n = transfer_start w n

-- the time until which a transfer takes: that of its step, and the delay of the unit
abbrev pub transfer_end : WorldState → ℕ → ℕ
transfer_end w n = transfer_start w n + 1 + (unit_at w n).delay

-- the block that is read or written: the one at the place, and on a disk the one of the number in rX; a card punch and
-- a printer have none
abbrev pub block_at : WorldState → ℕ → ℕ
block_at w n =
    if has_place (unit_at w n).kind then (unit_at w n).place else
    if has_medium (unit_at w n).kind then w.registers.x.magnitude else 0

-- whether there is such a number: rX may be negative
abbrev pub names_block : WorldState → ℕ → Bool
names_block w n =
    has_place (unit_at w n).kind || not (has_medium (unit_at w n).kind) || is_natural w.registers.x

-- where IOC winds a tape: to its beginning, or so many blocks back or forward; no further back than to the beginning
abbrev pub wound : UnitState → WordValue → ℕ
wound u m =
    if m.magnitude == 0 then 0 else
    if is_plus m.sign then u.place + m.magnitude else u.place - m.magnitude

-- IN needs something to read, and OUT something to write on
abbrev pub wrong_direction : Option UnitUse → UnitKind → Bool
wrong_direction None kind = false
wrong_direction (Some Looks) kind = false
wrong_direction (Some Controls) kind = false
wrong_direction (Some Reads) kind = not (has_place kind || has_medium kind)
wrong_direction (Some Writes) kind = not (has_medium kind || has_output kind)

-- a tape isn't wound past its last block; on disk, printer and paper tape M is 0; the others are not controlled
abbrev pub bad_order : UnitKind → UnitState → WordValue → Bool
bad_order Tape u m = is_positive m && nat_lt (length u.blocks) (u.place + m.magnitude)
bad_order Disk u m = not (m.magnitude == 0)
bad_order CardReader u m = true
bad_order CardPunch u m = true
bad_order Printer u m = not (m.magnitude == 0)
bad_order Typewriter u m = true
bad_order PaperTape u m = not (m.magnitude == 0)

abbrev pub bad_control : Option UnitUse → UnitState → WordValue → Bool
bad_control None u m = false
bad_control (Some Looks) u m = false
bad_control (Some Controls) u m = bad_order u.kind u m
bad_control (Some Reads) u m = false
bad_control (Some Writes) u m = false

-- there is no block to read, or none of this number to write
abbrev pub no_block : Option UnitUse → WorldState → ℕ → Bool
no_block None w n = false
no_block (Some Looks) w n = false
no_block (Some Controls) w n = false
no_block (Some Reads) w n = not (names_block w n && nat_lt (block_at w n) (length (unit_at w n).blocks))
no_block (Some Writes) w n = not (names_block w n)

-- IOC writes on the printer alone: the mark of a page
abbrev pub marks_page : UnitKind → Bool
marks_page Tape = false
marks_page Disk = false
marks_page CardReader = false
marks_page CardPunch = false
marks_page Printer = true
marks_page Typewriter = false
marks_page PaperTape = false

-- what is written would be one entry more than a unit holds
abbrev pub unit_full : Option UnitUse → WorldState → ℕ → Bool
unit_full None w n = false
unit_full (Some Looks) w n = false
unit_full (Some Controls) w n = marks_page (unit_at w n).kind && nat_le most_entries (length (unit_at w n).rows)
unit_full (Some Reads) w n = false
unit_full (Some Writes) w n =
    if has_medium (unit_at w n).kind then nat_le most_entries (block_at w n) else
    nat_le most_entries (length (unit_at w n).rows)
