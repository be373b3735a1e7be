-- The tests of a step in the groups in which the code makes them: of its instruction, of its operation, of the clock.
use Rattle.std.specs.Prelude.{Bool, not, if◌then◌else◌, List, [], ◌∷◌, Option, Some, None, Result, Ok, Err}
use Rattle.mix_word.specs.declared.decoding.Decoded.TheVariants.{Named}
use Rattle.mix_word.specs.declared.operation.Operation.{Operation}
use Rattle.mix_machine.specs.World.{WorldState, cell_of}
use Rattle.mix_machine.specs.Decode.{is_cell, is_field, field_at}
use Rattle.mix_machine.specs.Effects.{effects, goes_on}
use Rattle.mix_machine.specs.Do.{next_location}
use Rattle.mix_machine.specs.Order.{applies, first_fault, all_fit, clock_after}
use Rattle.mix_machine.specs.declared.decode.Arguments.{Arguments}
use Rattle.mix_machine.specs.declared.plan.Effects.{Effects}
use Rattle.mix_machine.specs.declared.plan.Writes.{Writes}
use Rattle.mix_machine.specs.declared.plan.Plan.{Plan}
use Rattle.mix_machine.specs.declared.plan.Plan.TheVariants as plan
use Rattle.mix_machine.specs.declared.step.operand.Operand.{Operand}
use Rattle.mix_machine.specs.declared.fault.MixFault.{MixFault}
use Rattle.mix_machine.specs.declared.fault.MixFault.TheVariants.{NoOperation, FloatingOperation, IndexOverSix, LargeAddress, NoCell, NoField, IndexOverflow, NegativeShift, NoUnit, WrongDirection, NoBlock, BadControl, UnitFull, ClockFull}

-- the faults of I and M
abbrev pub of_address : List MixFault
of_address = IndexOverSix ∷ LargeAddress ∷ []

-- the faults that are read off the instruction
abbrev pub of_instruction : List MixFault
of_instruction = NoOperation ∷ FloatingOperation ∷ of_address

-- the faults of the operation itself
abbrev pub of_operation : List MixFault
of_operation =
    NoField ∷ NegativeShift ∷ NoUnit ∷ WrongDirection ∷ BadControl ∷ NoCell ∷ IndexOverflow ∷ NoBlock ∷ UnitFull ∷ []

-- the first fault of a list that applies, if there is one
abbrev pub fault_among : (MixFault → Bool) → List MixFault → Option MixFault
fault_among test [] = None
fault_among test (f ∷ fs) = if test f then Some f else fault_among test fs

-- what an operation does, or the first of its own faults
abbrev pub outcome_of : Operation → WorldState → Arguments → Result Effects MixFault
outcome_of op w a = first_fault (applies (Named op) w a) of_operation (effects op w a)

-- the operand of an operation that has one
abbrev pub operand_or_fault : WorldState → Arguments → Result Operand MixFault
operand_or_fault w a =
    if not (is_field a.f) then Err NoField else
    if not (is_cell a.m) then Err NoCell else
    Ok (record { place = a.m.magnitude; word = cell_of w a.m.magnitude; field = field_at a.f })

-- writes where each value fits its place
abbrev pub fitting_or_fault : Writes → Result Effects MixFault
fitting_or_fault writes = if not (all_fit writes) then Err IndexOverflow else Ok (goes_on writes)

-- what an operation does with the time that it takes, or the fault of a full clock
abbrev pub timed_or_fault : Operation → WorldState → Arguments → Effects → Result Plan MixFault
timed_or_fault op w a e =
    if applies (Named op) w a ClockFull then Err ClockFull
    else Ok (plan.Step e.writes (next_location e.jumps w a) (clock_after op w a))
