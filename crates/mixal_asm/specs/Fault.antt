-- The faults of a source: their numbers, their words, and how they are written.
use Rattle.std.specs.Prelude.{ℕ, List, ◌++◌, codes, decimal}
use Rattle.mixal_text.specs.Fault.{fault_number, fault_text}
use Rattle.mixal_asm.specs.declared.fault.AsmKind.{AsmKind}
use Rattle.mixal_asm.specs.declared.fault.AsmKind.TheVariants.{Text, Inserted, DefinedTwice, AddressTooLarge, LocationOutOfRange, NoEnd, StartOutOfRange, SourceTooLong}
use Rattle.mixal_asm.specs.declared.fault.AsmFault.{AsmFault}

abbrev pub kind_number : AsmKind → ℕ
kind_number (Text misread) = fault_number misread.fault
kind_number (Inserted line misread) = fault_number misread.fault
kind_number DefinedTwice = 4
kind_number AddressTooLarge = 9
kind_number LocationOutOfRange = 11
kind_number NoEnd = 13
kind_number StartOutOfRange = 15
kind_number SourceTooLong = 16

abbrev pub kind_text : AsmKind → List ℕ
kind_text (Text misread) = fault_text misread.fault
kind_text (Inserted line misread) = fault_text misread.fault
kind_text DefinedTwice = codes "defined twice"
kind_text AddressTooLarge = codes "address beyond two bytes"
kind_text LocationOutOfRange = codes "location outside 0 to 3999"
kind_text NoEnd = codes "no END"
kind_text StartOutOfRange = codes "start outside 0 to 3999"
kind_text SourceTooLong = codes "source too long"

-- `A13 no END`
abbrev pub kind_line : AsmKind → List ℕ
kind_line kind = codes "A" ++ decimal (kind_number kind) ++ codes " " ++ kind_text kind

-- `line 2: A13 no END`
abbrev pub asm_fault_line : AsmFault → List ℕ
asm_fault_line fault = codes "line " ++ decimal fault.line ++ codes ": " ++ kind_line fault.kind
