-- Which cells a change uses, and at which clock: the cell of its instruction, those that it reads and those that it
-- writes (1.3.1).
use Rattle.std.specs.Prelude.{ℕ, ◌+◌, Bool, ◌&&◌, nat_le, nat_lt}
use Rattle.mix_word.specs.declared.operation.Operation.{Operation}
use Rattle.mix_word.specs.declared.uses.Uses.{Uses}
use Rattle.mix_word.specs.Uses.{uses_of}
use Rattle.mix_word.specs.declared.uses.Uses.TheVariants as uses
use Rattle.mix_word.specs.declared.uses.UnitUse.TheVariants as unit
use Rattle.mix_machine.specs.World.{WorldState, unit_at}
use Rattle.mix_machine.specs.Decode.{decode_at, arguments_at}
use Rattle.mix_machine.specs.Effects.{effects}
use Rattle.mix_machine.specs.Order.{operation_or_nop}
use Rattle.mix_machine.specs.UnitAction.{use_of, start_of}
use Rattle.mix_machine.specs.units.UnitKind.{block_length}
use Rattle.mix_machine.specs.declared.decode.Arguments.{Arguments}
use Rattle.mix_machine.specs.declared.plan.Writes.{Writes}
use Rattle.mix_machine.specs.declared.plan.Writes.TheVariants.{Nothing, Register, RegisterAndToggle, Pair, PairAndToggle, Cell, Indicator, Copy, Input, Output, Control}
use Rattle.mix_machine.specs.declared.access.Span.{Span}
use Rattle.mix_machine.specs.declared.access.Access.{Access}
use Rattle.mix_machine.specs.declared.old.Change.{Change}
use Rattle.mix_machine.specs.declared.old.Change.TheVariants.{Step, SetReg, SetCell, SetLoc, SetOver, SetCmp, Break, Clear}

-- so many cells from one on
abbrev pub cells_from : ℕ → ℕ → Span
cells_from first count = record { first = first; count = count }

abbrev pub no_cells : Span
no_cells = cells_from 0 0

-- whether a cell is one of them
abbrev pub has_cell : Span → ℕ → Bool
has_cell s p = nat_le s.first p && nat_lt p (s.first + s.count)

-- as many cells from one on as the block of a unit has words
abbrev pub block_from : WorldState → ℕ → ℕ → Span
block_from w n cell = cells_from cell (block_length (unit_at w n).kind)

-- What an operation reads, by what it uses of its instruction: the operand, the cells that MOVE copies, the block of an
-- OUT. (A store reads the cell M too: the bytes that it keeps.)
abbrev pub cells_read : Uses → WorldState → Arguments → Span
cells_read uses.Nothing w a = no_cells
cells_read uses.FAlone w a = no_cells
cells_read uses.Address w a = no_cells
cells_read uses.Count w a = no_cells
cells_read uses.Operand w a = cells_from a.m.magnitude 1
cells_read uses.Cells w a = cells_from a.m.magnitude a.f
cells_read (uses.Unit unit.Looks) w a = no_cells
cells_read (uses.Unit unit.Controls) w a = no_cells
cells_read (uses.Unit unit.Reads) w a = no_cells
cells_read (uses.Unit unit.Writes) w a = block_from w a.f a.m.magnitude

-- the cells among what an operation writes
abbrev pub cells_written : WorldState → Writes → Span
cells_written w Nothing = no_cells
cells_written w (Register r v) = no_cells
cells_written w (RegisterAndToggle r v b) = no_cells
cells_written w (Pair a x) = no_cells
cells_written w (PairAndToggle a x b) = no_cells
cells_written w (Cell p v) = cells_from p 1
cells_written w (Indicator c) = no_cells
cells_written w (Copy c) = cells_from c.to c.count
cells_written w (Input t) = block_from w t.unit t.cell
cells_written w (Output t) = no_cells
cells_written w (Control n k) = no_cells

-- the operation of the next step
abbrev pub operation_at : WorldState → Operation
operation_at w = operation_or_nop (decode_at w)

-- of a step: its instruction is fetched at once; IN, OUT and IOC begin when their unit is free, and every other operation at
-- once too
abbrev pub access_of_step : Operation → WorldState → Arguments → Access
access_of_step op w a = record {
  clock = w.clock;
  start = start_of (use_of op) w a.f;
  fetched = cells_from w.loc 1;
  read = cells_read (uses_of op) w a;
  written = cells_written w (effects op w a).writes;
}

-- of a value that is set, at once: a cell, or none
abbrev pub access_of_value : WorldState → Span → Access
access_of_value w written = record { clock = w.clock; start = w.clock; fetched = no_cells; read = no_cells; written = written }

-- of a change that is accepted, from the state before it
unfoldable pub access_of : WorldState → Change → Access
access_of w Step = access_of_step (operation_at w) w (arguments_at w)
access_of w (SetReg r v) = access_of_value w no_cells
access_of w (SetCell p v) = access_of_value w (cells_from p 1)
access_of w (SetLoc p) = access_of_value w no_cells
access_of w (SetOver b) = access_of_value w no_cells
access_of w (SetCmp c) = access_of_value w no_cells
access_of w (Break p) = access_of_value w no_cells
access_of w (Clear p) = access_of_value w no_cells
