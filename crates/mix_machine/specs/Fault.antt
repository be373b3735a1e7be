-- The faults of the machine: number and text.
use Rattle.std.specs.Prelude.{ℕ, ◌==◌, List, ◌++◌, codes, Result, Ok, Err, if◌then◌else◌}
use Rattle.std.specs.Fmt.{decimal}
use Rattle.mix_refused.specs.declared.refused.Refused.{Refused}
use Rattle.mix_refused.specs.declared.refused.Refused.TheVariants.{Fault, Memory}
use Rattle.mix_machine.specs.declared.fault.MixFault.{MixFault}
use Rattle.mix_machine.specs.declared.fault.MixFault.TheVariants.{NoOperation, FloatingOperation, IndexOverSix, LargeAddress, NoCell, NoField, IndexOverflow, NegativeShift, NoUnit, WrongDirection, NoBlock, BadControl, UnitFull, ClockFull, NoCellAtLocation}

abbrev pub fault_number : MixFault → ℕ
fault_number NoOperation = 1
fault_number FloatingOperation = 2
fault_number IndexOverSix = 3
fault_number LargeAddress = 4
fault_number NoCell = 5
fault_number NoField = 6
fault_number IndexOverflow = 7
fault_number NegativeShift = 8
fault_number NoUnit = 9
fault_number WrongDirection = 10
fault_number NoBlock = 11
fault_number BadControl = 12
fault_number UnitFull = 13
fault_number ClockFull = 14
fault_number NoCellAtLocation = 15

-- the fault of a number
abbrev pub fault_of : ℕ → MixFault
fault_of n =
    if n == 1 then NoOperation else
    if n == 2 then FloatingOperation else
    if n == 3 then IndexOverSix else
    if n == 4 then LargeAddress else
    if n == 5 then NoCell else
    if n == 6 then NoField else
    if n == 7 then IndexOverflow else
    if n == 8 then NegativeShift else
    if n == 9 then NoUnit else
    if n == 10 then WrongDirection else
    if n == 11 then NoBlock else
    if n == 12 then BadControl else
    if n == 13 then UnitFull else
    if n == 14 then ClockFull else
    NoCellAtLocation

-- what a byte tells of a change: 0 that it is done, 255 that there is no memory, and the number of a fault that it is this
abbrev pub answer_of : ℕ → Result (Unit {0}) (Refused MixFault)
answer_of n = if n == 0 then Ok tt else if n == 255 then Err Memory else Err (Fault (fault_of n))

abbrev pub fault_text : MixFault → List ℕ
fault_text NoOperation = codes "no such operation"
fault_text FloatingOperation = codes "floating operation"
fault_text IndexOverSix = codes "index over 6"
fault_text LargeAddress = codes "address beyond two bytes"
fault_text NoCell = codes "no such cell"
fault_text NoField = codes "no such field"
fault_text IndexOverflow = codes "index overflow"
fault_text NegativeShift = codes "negative shift"
fault_text NoUnit = codes "no such unit"
fault_text WrongDirection = codes "wrong direction"
fault_text NoBlock = codes "no block"
fault_text BadControl = codes "bad control"
fault_text UnitFull = codes "unit full"
fault_text ClockFull = codes "clock full"
fault_text NoCellAtLocation = codes "no cell at the location"

-- number and text: `M5 no such cell`
abbrev pub fault_line : MixFault → List ℕ
fault_line f = codes "M" ++ decimal (fault_number f) ++ codes " " ++ fault_text f
