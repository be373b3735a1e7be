-- A step that the machine refuses whatever it holds (1.3.1), by what its line gives in numbers.
use Rattle.std.specs.Prelude.{ℕ, ◌+◌, ◌==◌, ◌&&◌, ◌||◌, nat_lt, nat_le, not, Bool, false, true, List, is_none, Option, Some, None, Result, Ok, Err, if◌then◌else◌}
use Rattle.std.specs.List.{list_any}
use Rattle.mix_word.specs.Prelude.{natural_of, zero_word, uses_of, decode_of}
use Rattle.mix_word.specs.declared.decoding.Decoded.{Decoded}
use Rattle.mix_word.specs.declared.decoding.Decoded.TheVariants.{Named, Floating, Unknown}
use Rattle.mix_word.specs.declared.uses.Uses.{Uses}
use Rattle.mix_word.specs.declared.uses.UnitUse.{UnitUse}
use Rattle.mix_word.specs.declared.uses.UnitUse.TheVariants.{Looks, Controls, Reads, Writes}
use Rattle.mix_word.specs.declared.uses.Uses.TheVariants.{Nothing, Address, Count, Operand, Cells, Unit}
use Rattle.mixal_text.specs.declared.misread.Misread.{Misread}
use Rattle.mixal_text.specs.declared.op.Op.{Op}
use Rattle.mixal_text.specs.declared.op.Op.TheVariants.{Machine}
use Rattle.mixal_text.specs.declared.refused.Step.{Step}
use Rattle.mixal_text.specs.Address.{APartValue, Value, OperandValue, address_of}
use Rattle.mixal_text.specs.WrittenF.{is_asterisk, no_names, written_f}

-- ---- a step that its line gives in numbers: neither M nor F has a symbol or an asterisk, and there is no index

abbrev pub step_with : ℕ → APartValue → ℕ → ℕ → Option Step
step_with code (Value m) index f = if index == 0 then Some record { code = code; m = m; f = f } else None
step_with code _ index f = None

abbrev pub step_by : ℕ → Result OperandValue Misread → Option Step
step_by code (Ok operand) = step_with code operand.a operand.index operand.f
step_by code (Err fault) = None

unfoldable pub step_at : ℕ → ℕ → List ℕ → Option Step
step_at code f address =
    if list_any is_asterisk address then None else step_by code (address_of no_names zero_word f address)

abbrev pub step_of : Op → List ℕ → Option Step
step_of (Machine code f) address = step_at code f address
step_of _ address = None

abbrev pub uses_by : Decoded → Uses
uses_by (Named operation) = uses_of operation
uses_by Floating = Nothing
uses_by Unknown = Nothing

abbrev pub uses_at : ℕ → ℕ → Uses
uses_at code f = uses_by (decode_of code f)

-- ---- a unit that cannot do what is asked of it

-- the card reader takes no OUT, punch and printer no IN, and these and the typewriter no IOC, but the printer does
abbrev pub cannot_do : UnitUse → ℕ → Bool
cannot_do Looks f = false
cannot_do Controls f = f == 16 || f == 17 || f == 19
cannot_do Reads f = f == 17 || f == 18
cannot_do Writes f = f == 16

abbrev pub cannot : Uses → ℕ → Bool
cannot (Unit action) f = cannot_do action f
cannot _ f = false

-- by the F in numbers, whatever M is
abbrev pub unit_cannot : ℕ → Option ℕ → Bool
unit_cannot code None = false
unit_cannot code (Some f) = cannot (uses_at code f) f

abbrev pub asks_unit : Op → List ℕ → Bool
asks_unit (Machine code f) address = unit_cannot code (written_f address)
asks_unit _ address = false

-- disk, printer and paper tape are controlled with M = 0 alone
abbrev pub takes_zero_alone : ℕ → Bool
takes_zero_alone f = (nat_le 8 f && nat_lt f 16) || f == 18 || f == 20

abbrev pub is_control : Uses → Bool
is_control (Unit Controls) = true
is_control _ = false

abbrev pub has_bad_control : Option Step → Bool
has_bad_control None = false
has_bad_control (Some step) =
    is_control (uses_at step.code step.f) && takes_zero_alone step.f && not (step.m.magnitude == 0)

-- ---- a cell that is none

-- the words of a block or a row of a unit
abbrev pub block : ℕ → ℕ
block f = if nat_lt f 16 then 100 else (if nat_lt f 18 then 16 else (if f == 18 then 24 else 14))

-- JMP and the other jumps of 39 to 47
abbrev pub is_jump : ℕ → Bool
is_jump code = nat_le 39 code && nat_lt code 48

-- how many cells are used from M on, also of a jump if it is taken
abbrev pub cells_by : ℕ → ℕ → Uses → ℕ
cells_by code f Address = if is_jump code then 1 else 0
cells_by code f Operand = 1
cells_by code f Cells = f
cells_by code f (Unit Looks) = 1
cells_by code f (Unit Reads) = block f
cells_by code f (Unit Writes) = block f
cells_by code f _ = 0

abbrev pub are_beyond : ℕ → Option ℕ → Bool
are_beyond cells None = not (cells == 0)
are_beyond cells (Some first) = not (cells == 0) && nat_lt 4000 (first + cells)

abbrev pub lacks_cell : Option Step → Bool
lacks_cell None = false
lacks_cell (Some step) = are_beyond (cells_by step.code step.f (uses_at step.code step.f)) (natural_of step.m)

-- ---- a shift by a negative number

abbrev pub is_count : Uses → Bool
is_count Count = true
is_count _ = false

abbrev pub shifts_back : Option Step → Bool
shifts_back None = false
shifts_back (Some step) = is_count (uses_at step.code step.f) && is_none (natural_of step.m)
