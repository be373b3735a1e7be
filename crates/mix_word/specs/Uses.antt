-- What each operation uses of its instruction (1.3.1), and what that asks of M and of F.
use Rattle.std.specs.Prelude.{ℕ, Bool, true, false, Option, Some, None}
use Rattle.mix_word.specs.declared.operation.Operation.{Operation}
use Rattle.mix_word.specs.declared.operation.Operation.TheVariants.{Nop, Add, Sub, Mul, Div, Num, Char, Hlt, Shift, Move, Load, LoadNegated, Store, StoreJ, StoreZero, Jbus, Ioc, In, Out, Jred, Jump, RegisterJump, Increase, Decrease, Enter, EnterNegated, Compare}
use Rattle.mix_word.specs.declared.uses.Uses.{Uses}
use Rattle.mix_word.specs.declared.uses.Uses.TheVariants.{Nothing, FAlone, Address, Count, Operand, Cells, Unit}
use Rattle.mix_word.specs.declared.uses.UnitUse.{UnitUse}
use Rattle.mix_word.specs.declared.uses.UnitUse.TheVariants.{Looks, Controls, Reads, Writes}

abbrev pub uses_of : Operation → Uses
uses_of Nop = Nothing
uses_of Num = FAlone
uses_of Char = FAlone
uses_of Hlt = FAlone
uses_of (Shift kind) = Count
uses_of Move = Cells
uses_of Add = Operand
uses_of Sub = Operand
uses_of Mul = Operand
uses_of Div = Operand
uses_of (Load r) = Operand
uses_of (LoadNegated r) = Operand
uses_of (Store r) = Operand
uses_of StoreJ = Operand
uses_of StoreZero = Operand
uses_of (Compare r) = Operand
uses_of Jbus = Unit Looks
uses_of Jred = Unit Looks
uses_of Ioc = Unit Controls
uses_of In = Unit Reads
uses_of Out = Unit Writes
uses_of (Jump kind) = Address
uses_of (RegisterJump r condition) = Address
uses_of (Increase r) = Address
uses_of (Decrease r) = Address
uses_of (Enter r) = Address
uses_of (EnterNegated r) = Address

-- how many units there are
abbrev pub unit_count : ℕ
unit_count = 21

-- Whether the address and the index are looked at, and whether M is a number of bytes; whether F is a field and M a
-- cell; what is done with the unit F; and whether F tells which of several operations of one code is meant.
pub record Needs : Type 0 where
  pub address : Bool
  pub bytes : Bool
  pub operand : Bool
  pub unit : Option UnitUse
  pub by_f : Bool

abbrev pub needs_of : Uses → Needs
needs_of Nothing = record { address = false; bytes = false; operand = false; unit = None; by_f = false }
needs_of FAlone = record { address = false; bytes = false; operand = false; unit = None; by_f = true }
needs_of Address = record { address = true; bytes = false; operand = false; unit = None; by_f = true }
needs_of Count = record { address = true; bytes = true; operand = false; unit = None; by_f = true }
needs_of Operand = record { address = true; bytes = false; operand = true; unit = None; by_f = false }
needs_of Cells = record { address = true; bytes = false; operand = false; unit = None; by_f = false }
needs_of (Unit action) = record { address = true; bytes = false; operand = false; unit = Some action; by_f = false }

-- what an operation asks of its instruction
abbrev pub needs : Operation → Needs
needs op = needs_of (uses_of op)
