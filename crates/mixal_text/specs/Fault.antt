-- The faults of a text's parts (1.3.2): their numbers, their words, and how they are written.
use Rattle.std.specs.Prelude.{ℕ, List, ◌++◌, codes, decimal}
use Rattle.mixal_text.specs.declared.fault.TextFault.{TextFault}
use Rattle.mixal_text.specs.declared.fault.TextFault.TheVariants.{BadByte, NoSuchOperation, BadSymbol, BadExpression, NumberTooLarge, UndefinedSymbol, ExpressionOverflow, PartOutOfRange, BadAlf, NoSuchLocalSymbol}

abbrev pub fault_number : TextFault → ℕ
fault_number BadByte = 1
fault_number NoSuchOperation = 2
fault_number BadSymbol = 3
fault_number BadExpression = 5
fault_number NumberTooLarge = 6
fault_number UndefinedSymbol = 7
fault_number ExpressionOverflow = 8
fault_number PartOutOfRange = 10
fault_number BadAlf = 12
fault_number NoSuchLocalSymbol = 14

abbrev pub fault_text : TextFault → List ℕ
fault_text BadByte = codes "bad byte"
fault_text NoSuchOperation = codes "no such operation"
fault_text BadSymbol = codes "bad symbol"
fault_text BadExpression = codes "bad expression"
fault_text NumberTooLarge = codes "number too large"
fault_text UndefinedSymbol = codes "undefined symbol"
fault_text ExpressionOverflow = codes "overflow in expression"
fault_text PartOutOfRange = codes "index, field or F out of range"
fault_text BadAlf = codes "bad ALF"
fault_text NoSuchLocalSymbol = codes "no such local symbol"

-- `A2 no such operation`
abbrev pub fault_line : TextFault → List ℕ
fault_line fault = codes "A" ++ decimal (fault_number fault) ++ codes " " ++ fault_text fault
