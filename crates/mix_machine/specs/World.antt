-- The state of the machine (The Art of Computer Programming, 1.3.1, "Description of MIX").
use Rattle.std.specs.Prelude.{ℕ, Bool, false, List, ◌≡◌, ◌≤◌, ◌^◌, length, slice_index_or, slice_set}
use Rattle.mix_word.specs.declared.word.Cmp.{Cmp}
use Rattle.mix_word.specs.declared.register.Reg.{Reg}
use Rattle.mix_word.specs.Word.{WordValue, zero_word}
use Rattle.mix_machine.specs.Registers.{RegistersState, AreRegisters, held_in}
use Rattle.mix_machine.specs.units.Unit.{UnitState}
use Rattle.mix_machine.specs.units.Units.{UnitsState, AreUnits, unit_of}

-- The registers, the overflow toggle, the comparison indicator, 4,000 cells, the location of the next
-- instruction, the clock in u, the units, and of each cell whether it has a breakpoint.
pub record WorldState : Type 0 where
  pub registers : RegistersState
  pub over : Bool
  pub cmp : Cmp
  pub cells : List WordValue
  pub loc : ℕ
  pub clock : ℕ
  pub units : UnitsState
  pub breaks : List Bool

-- what a register holds
abbrev pub register_of : WorldState → Reg → WordValue
register_of w r = held_in w.registers r

-- what the cell at a place holds
abbrev pub cell_of : WorldState → ℕ → WordValue
cell_of w p = slice_index_or w.cells p zero_word

-- the same state but for one cell
abbrev pub with_cell : WorldState → ℕ → WordValue → WorldState
with_cell w p v = record w { cells = slice_set w.cells p v }

-- the unit of a number
abbrev pub unit_at : WorldState → ℕ → UnitState
unit_at w n = unit_of w.units n

-- whether the cell at a place has a breakpoint
abbrev pub has_break : WorldState → ℕ → Bool
has_break w p = slice_index_or w.breaks p false

-- the same state but for one breakpoint
abbrev pub with_break : WorldState → ℕ → Bool → WorldState
with_break w p b = record w { breaks = slice_set w.breaks p b }

-- the most that the clock may show
abbrev pub last_clock : ℕ
last_clock = 10 ^ 18

-- What every state of the machine meets: the registers hold what they can, and the location is a cell or the
-- one after the last.
pub record IsWorld (w : WorldState) : Type 0 where
  pub registers : AreRegisters w.registers
  pub cells : length w.cells ≡ 4000
  pub loc : w.loc ≤ 4000
  pub clock : w.clock ≤ last_clock
  pub units : AreUnits w.units
  pub breaks : length w.breaks ≡ 4000
