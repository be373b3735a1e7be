-- A change as a list of writes. A write sets one place of the state to a value; what stood there before is an
-- old value, the write's twin, and setting the old values again, last first, undoes the change.
use Rattle.std.specs.Prelude.{ℕ, zero, suc, ◌+◌, ◌-◌, Bool, true, false, not, List, [], ◌∷◌, ◌++◌, length, take, drop, nat_le, nat_lt, Option, None, if◌then◌else◌}
use Rattle.std.specs.Bool.{then_some}
use Rattle.mix_word.specs.Word.{WordValue}
use Rattle.mix_word.specs.declared.register.Reg.TheVariants as reg
use Rattle.mix_machine.specs.Registers.{with_register, fits_register}
use Rattle.mix_machine.specs.World.{WorldState, register_of, cell_of, with_cell, unit_at, has_break, with_break, last_clock}
use Rattle.mix_machine.specs.UnitAction.{transfer_end}
use Rattle.mix_machine.specs.units.UnitKind.{block_length, has_place, has_medium}
use Rattle.mix_machine.specs.units.Row.{RowState, row_of}
use Rattle.mix_machine.specs.units.Unit.{word_of}
use Rattle.mix_machine.specs.units.Units.{set_place, place_at, fits_place, set_length, length_at, fits_length, set_item, item_at, fits_item, set_until, until_at, fits_until, add_blocks, add_row}
use Rattle.mix_machine.specs.declared.units.kind.UnitKind.{UnitKind}
use Rattle.mix_machine.specs.declared.units.kind.UnitKind.TheVariants.{Tape, Disk, CardReader, CardPunch, Printer, Typewriter, PaperTape}
use Rattle.mix_machine.specs.declared.plan.Transfer.{Transfer}
use Rattle.mix_machine.specs.declared.plan.Plan.{Plan}
use Rattle.mix_machine.specs.declared.plan.Plan.TheVariants.{Value, Step}
use Rattle.mix_machine.specs.declared.plan.Writes.{Writes}
use Rattle.mix_machine.specs.declared.plan.Writes.TheVariants.{Nothing, Register, RegisterAndToggle, Pair, PairAndToggle, Cell as CellOf, Indicator, Copy, Input, Output, Control}
use Rattle.mix_machine.specs.declared.old.Old.{Old}
use Rattle.mix_machine.specs.declared.old.Old.TheVariants.{Loc, Clock, Reg as OldRegister, Cell, Over, Cmp as OldCmp, Break, At, Len, Item, Until}

-- the state with a value at the place that it names
abbrev pub set_value : WorldState → Old → WorldState
set_value w (Loc n) = record w { loc = n }
set_value w (Clock t) = record w { clock = t }
set_value w (OldRegister r v) = record w { registers = with_register w.registers r v }
set_value w (Cell p v) = with_cell w p v
set_value w (Over b) = record w { over = b }
set_value w (OldCmp c) = record w { cmp = c }
set_value w (Break p b) = with_break w p b
set_value w (At n k) = record w { units = set_place w.units n k }
set_value w (Len n k) = record w { units = set_length w.units n k }
set_value w (Item n i j v) = record w { units = set_item w.units n i j v }
set_value w (Until n t) = record w { units = set_until w.units n t }

-- the value that stands now at the place that another one names
abbrev pub value_at : WorldState → Old → Old
value_at w (Loc n) = Loc w.loc
value_at w (Clock t) = Clock w.clock
value_at w (OldRegister r v) = OldRegister r (register_of w r)
value_at w (Cell p v) = Cell p (cell_of w p)
value_at w (Over b) = Over w.over
value_at w (OldCmp c) = OldCmp w.cmp
value_at w (Break p b) = Break p (has_break w p)
value_at w (At n k) = At n (place_at w.units n)
value_at w (Len n k) = Len n (length_at w.units n)
value_at w (Item n i j v) = Item n i j (item_at w.units n i j)
value_at w (Until n t) = Until n (until_at w.units n)

-- whether a value is the clock: that of a step is the last value that it keeps
abbrev pub is_clock : Old → Bool
is_clock (Clock t) = true
is_clock _ = false

-- whether there is its place in the state, and a value is in the range of it
abbrev pub fits : WorldState → Old → Bool
fits w (Loc n) = nat_le n 4000
fits w (Clock t) = nat_le t last_clock
fits w (OldRegister r v) = fits_register r v
fits w (Cell p v) = nat_lt p 4000
fits w (Over b) = true
fits w (OldCmp c) = true
fits w (Break p b) = nat_lt p 4000
fits w (At n k) = fits_place w.units n k
fits w (Len n k) = fits_length w.units n k
fits w (Item n i j v) = fits_item w.units n i j
fits w (Until n t) = fits_until n t

-- the state that putting one value back gives, or none where it doesn't fit
abbrev pub put_value : WorldState → Old → Option WorldState
put_value w o = then_some (fits w o) (set_value w o)

-- One write of a change: a value set; or what a unit holds grown, by so many blocks of +0 and one block of words, or by
-- a row.
pub data Write : Type 0 where
  set : Old → Write
  grow : ℕ → ℕ → List WordValue → Write
  print : ℕ → RowState → Write

abbrev pub written : WorldState → Write → WorldState
written w (set o) = set_value w o
written w (grow n gap block) = record w { units = add_blocks w.units n gap block }
written w (print n row) = record w { units = add_row w.units n row }

-- the old value that a write replaces; of what grows it is the length
abbrev pub replaced : WorldState → Write → Old
replaced w (set o) = value_at w o
replaced w (grow n gap block) = Len n (length_at w.units n)
replaced w (print n row) = Len n (length_at w.units n)

abbrev pub write_all : WorldState → List Write → WorldState
write_all w [] = w
write_all w (x ∷ xs) = write_all (written w x) xs

-- the old values that the writes replace, each in the state that the writes before it left
abbrev pub kept_by : WorldState → List Write → List Old
kept_by w [] = []
kept_by w (x ∷ xs) = replaced w x ∷ kept_by (written w x) xs

-- so many words copied from one cell on to another on, each in the state that the copies before it left
abbrev pub copies : ℕ → ℕ → ℕ → WorldState → List Write
copies zero from to w = []
copies (suc n) from to w =
    let x = set (Cell to (cell_of w from)) in x ∷ copies n (from + 1) (to + 1) (written w x)

-- so many values, from one number on
abbrev pub each : ℕ → ℕ → (ℕ → Old) → List Write
each zero j f = []
each (suc n) j f = set (f j) ∷ each n (j + 1) f

-- the time until which the transfer takes
abbrev pub busy : WorldState → ℕ → Write
busy w n = set (Until n (transfer_end w n))

-- the place after the block, where a unit of this kind has one
abbrev pub place_after : UnitKind → Transfer → List Write
place_after kind t = if has_place kind then set (At t.unit (t.block + 1)) ∷ [] else []

-- a word of the block, into its cell
abbrev pub from_block : WorldState → Transfer → ℕ → Old
from_block w t j = Cell (t.cell + j) (word_of (unit_at w t.unit) t.block j)

-- a word of a cell, into the block
abbrev pub from_cell : WorldState → Transfer → ℕ → Old
from_cell w t j = Item t.unit t.block j (cell_of w (t.cell + j))

-- IN: the words of a block of the unit, into cells
abbrev pub input_writes : UnitKind → WorldState → Transfer → List Write
input_writes kind w t = place_after kind t ++ busy w t.unit ∷ each (block_length kind) 0 (from_block w t)

-- the words of the cells that OUT writes
abbrev pub words_out : UnitKind → WorldState → Transfer → List WordValue
words_out kind w t = take (block_length kind) (drop t.cell w.cells)

-- OUT: the words of cells, in place of those of a block, or as a new block, or as a row
abbrev pub replace_writes : UnitKind → WorldState → Transfer → List Write
replace_writes kind w t = place_after kind t ++ busy w t.unit ∷ each (block_length kind) 0 (from_cell w t)

abbrev pub append_writes : UnitKind → WorldState → Transfer → List Write
append_writes kind w t =
    grow t.unit (t.block - length (unit_at w t.unit).blocks) (words_out kind w t) ∷ place_after kind t ++ busy w t.unit ∷ []

abbrev pub row_writes : UnitKind → WorldState → Transfer → List Write
row_writes kind w t = print t.unit (row_of (words_out kind w t)) ∷ busy w t.unit ∷ []

abbrev pub output_writes : UnitKind → WorldState → Transfer → List Write
output_writes kind w t =
    if not (has_medium kind) then row_writes kind w t else
    if nat_lt t.block (length (unit_at w t.unit).blocks) then replace_writes kind w t else append_writes kind w t

-- IOC: a tape wound to a place, the mark of a page, or nothing but the time
abbrev pub control_writes : UnitKind → WorldState → ℕ → ℕ → List Write
control_writes Tape w n k = set (At n k) ∷ busy w n ∷ []
control_writes Disk w n k = busy w n ∷ []
control_writes CardReader w n k = []
control_writes CardPunch w n k = []
control_writes Printer w n k = print n None ∷ busy w n ∷ []
control_writes Typewriter w n k = []
control_writes PaperTape w n k = set (At n k) ∷ busy w n ∷ []

-- what an operation writes, in this order
abbrev pub writes_in : WorldState → Writes → List Write
writes_in w Nothing = []
writes_in w (Register r v) = set (OldRegister r v) ∷ []
writes_in w (RegisterAndToggle r v b) = set (OldRegister r v) ∷ set (Over b) ∷ []
writes_in w (Pair a x) = set (OldRegister reg.A a) ∷ set (OldRegister reg.X x) ∷ []
writes_in w (PairAndToggle a x b) = set (OldRegister reg.A a) ∷ set (OldRegister reg.X x) ∷ set (Over b) ∷ []
writes_in w (CellOf p v) = set (Cell p v) ∷ []
writes_in w (Indicator c) = set (OldCmp c) ∷ []
writes_in w (Copy c) = copies c.count c.from c.to w ++ set (OldRegister reg.I1 c.index) ∷ []
writes_in w (Input t) = input_writes (unit_at w t.unit).kind w t
writes_in w (Output t) = output_writes (unit_at w t.unit).kind w t
writes_in w (Control n k) = control_writes (unit_at w n).kind w n k

-- what a change writes: one value, or what its operation writes and then the location and the clock
abbrev pub writes_of : WorldState → Plan → List Write
writes_of w (Value o) = set o ∷ []
writes_of w (Step x loc clock) = writes_in w x ++ set (Loc loc) ∷ set (Clock clock) ∷ []
