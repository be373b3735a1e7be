-- When each fault applies to a step, and in which order they are tested.
use Rattle.std.specs.Prelude.{ℕ, Bool, true, false, not, ◌&&◌, ◌==◌, nat_le, nat_lt, if◌then◌else◌, List, [], ◌∷◌, ◌+◌, Result, Ok, Err}
use Rattle.mix_word.specs.Operation.{time_of}
use Rattle.mix_word.specs.Uses.{Needs, needs, unit_count}
use Rattle.mix_word.specs.declared.decoding.Decoded.{Decoded}
use Rattle.mix_word.specs.declared.decoding.Decoded.TheVariants.{Named, Floating, Unknown}
use Rattle.mix_word.specs.declared.operation.Operation.{Operation}
use Rattle.mix_word.specs.declared.operation.Operation.TheVariants.{Nop}
use Rattle.mix_machine.specs.Registers.{fits_register}
use Rattle.mix_machine.specs.World.{WorldState, unit_at, last_clock}
use Rattle.mix_machine.specs.Decode.{is_field}
use Rattle.mix_machine.specs.Jump.{is_negative}
use Rattle.mix_machine.specs.Effects.{effects, reaches}
use Rattle.mix_machine.specs.UnitAction.{use_of, needs_unit, start_of, wrong_direction, bad_control, no_block, unit_full}
use Rattle.mix_machine.specs.declared.decode.Arguments.{Arguments}
use Rattle.mix_machine.specs.declared.plan.Writes.{Writes}
use Rattle.mix_machine.specs.declared.plan.Writes.TheVariants.{Nothing, Register, RegisterAndToggle, Pair, PairAndToggle, Cell, Indicator, Copy, Input, Output, Control}
use Rattle.mix_machine.specs.declared.fault.MixFault.{MixFault}
use Rattle.mix_machine.specs.declared.fault.MixFault.TheVariants.{NoOperation, FloatingOperation, IndexOverSix, LargeAddress, NoCell, NoField, IndexOverflow, NegativeShift, NoUnit, WrongDirection, NoBlock, BadControl, UnitFull, ClockFull, NoCellAtLocation}

-- the operation that is named; where none is, the first faults refuse the step
abbrev pub operation_or_nop : Decoded → Operation
operation_or_nop (Named op) = op
operation_or_nop Floating = Nop
operation_or_nop Unknown = Nop

-- what the operation that is named asks of its instruction
abbrev pub needs_at : Decoded → Needs
needs_at d = needs (operation_or_nop d)

abbrev pub has_operation : Decoded → Bool
has_operation (Named op) = true
has_operation Floating = true
has_operation Unknown = false

abbrev pub is_floating : Decoded → Bool
is_floating (Named op) = false
is_floating Floating = true
is_floating Unknown = false

-- whether there is each cell that is read or written, and each value fits its register; a block and its cells have
-- faults of their own
abbrev pub all_fit : Writes → Bool
all_fit Nothing = true
all_fit (Register r v) = fits_register r v
all_fit (RegisterAndToggle r v b) = fits_register r v
all_fit (Pair a x) = true
all_fit (PairAndToggle a x b) = true
all_fit (Cell p v) = nat_lt p 4000
all_fit (Indicator c) = true
all_fit (Copy c) = nat_le (c.from + c.count) 4000 && nat_le (c.to + c.count) 4000 && nat_lt c.index.magnitude 4096
all_fit (Input t) = true
all_fit (Output t) = true
all_fit (Control n k) = true

-- the clock after a step: the time of the operation is added to the clock at which it begins
abbrev pub clock_after : Operation → WorldState → Arguments → ℕ
clock_after op w a = start_of (use_of op) w a.f + time_of op a.f

-- whether a fault applies to what is decoded, with these arguments
abbrev pub applies : Decoded → WorldState → Arguments → MixFault → Bool
applies d w a NoOperation = not (has_operation d)
applies d w a FloatingOperation = is_floating d
applies d w a IndexOverSix = (needs_at d).address && nat_lt 6 a.index
applies d w a LargeAddress = (needs_at d).address && nat_le 4096 a.m.magnitude
applies d w a NoCell = not (reaches (operation_or_nop d) w a)
applies d w a NoField = (needs_at d).operand && not (is_field a.f)
applies d w a IndexOverflow = not (all_fit (effects (operation_or_nop d) w a).writes)
applies d w a NegativeShift = (needs_at d).bytes && is_negative a.m
applies d w a NoUnit = needs_unit (operation_or_nop d) && nat_le unit_count a.f
applies d w a WrongDirection = wrong_direction (use_of (operation_or_nop d)) (unit_at w a.f).kind
applies d w a NoBlock = no_block (use_of (operation_or_nop d)) w a.f
applies d w a BadControl = bad_control (use_of (operation_or_nop d)) (unit_at w a.f) a.m
applies d w a UnitFull = unit_full (use_of (operation_or_nop d)) w a.f
applies d w a ClockFull = nat_lt last_clock (clock_after (operation_or_nop d) w a)
applies d w a NoCellAtLocation = w.loc == 4000

-- first to last
abbrev pub order : List MixFault
order =
    NoCellAtLocation ∷ NoOperation ∷ FloatingOperation ∷ IndexOverSix ∷ LargeAddress ∷ NoField ∷ NegativeShift
    ∷ NoUnit ∷ WrongDirection ∷ BadControl ∷ NoCell ∷ IndexOverflow ∷ NoBlock ∷ UnitFull ∷ ClockFull ∷ []

-- the first fault of a list that applies, or else the value
abbrev pub first_fault : {X : Type 0} → (MixFault → Bool) → List MixFault → X → Result X MixFault
first_fault test [] x = Ok x
first_fault test (f ∷ fs) x = if test f then Err f else first_fault test fs x
