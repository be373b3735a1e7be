-- Each refusal's number and text.
use Rattle.std.specs.Prelude.{ℕ, List, [], ◌++◌, codes, decimal}
use Rattle.mix_machine.specs.Fault.{fault_line}
use Rattle.mix_session.specs.declared.fault.Refusal.{Refusal}
use Rattle.mix_session.specs.declared.fault.Refusal.TheVariants.{NoSuchCommand, BadArgument, OutOfRange, TooFewChanges, RefusedByMachine, NoSuchChange}

-- the letter and the number, a blank and the words
abbrev pub numbered : List ℕ → ℕ → List ℕ → List ℕ
numbered letter number text = letter ++ decimal number ++ codes " " ++ text

-- the number of a refusal
abbrev pub refusal_number : Refusal → ℕ
refusal_number NoSuchCommand = 1
refusal_number BadArgument = 2
refusal_number OutOfRange = 3
refusal_number TooFewChanges = 4
refusal_number (RefusedByMachine fault) = 5
refusal_number NoSuchChange = 6

-- its words
abbrev pub refusal_name : Refusal → List ℕ
refusal_name NoSuchCommand = codes "no such command"
refusal_name BadArgument = codes "bad argument"
refusal_name OutOfRange = codes "number out of range"
refusal_name TooFewChanges = codes "fewer changes than asked"
refusal_name (RefusedByMachine fault) = codes "refused by the machine"
refusal_name NoSuchChange = codes "no such change"

-- what is reported after the words: of the machine its own fault
abbrev pub refusal_detail : Refusal → List ℕ
refusal_detail (RefusedByMachine fault) = codes ": " ++ fault_line fault
refusal_detail _ = []

-- `C1 no such command`, `C5 refused by the machine: M7 index overflow`
abbrev pub refusal_text : Refusal → List ℕ
refusal_text refusal = numbered (codes "C") (refusal_number refusal) (refusal_name refusal) ++ refusal_detail refusal
