-- Which bytes of its line a fault or a warning is about.
use Rattle.std.specs.Prelude.{ℕ, List, Option, Some, None, Result, Ok}
use Rattle.mixal_text.specs.Prelude.{part_span, op_of_line}
use Rattle.mixal_text.specs.declared.fault.TextFault.{TextFault}
use Rattle.mixal_text.specs.declared.op.Mnemonic.{Mnemonic}
use Rattle.mixal_text.specs.declared.op.Mnemonic.TheVariants.{Orig}
use Rattle.mixal_text.specs.declared.misread.Span.{Span}
use Rattle.mixal_text.specs.declared.parts.Part.{Part}
use Rattle.mixal_text.specs.declared.parts.Part.TheVariants as part
use Rattle.mixal_text.specs.declared.slips.Slip.{Slip}
use Rattle.mixal_text.specs.declared.slips.Slip.TheVariants.{OperationAsLabel, NoLabel, AlfCut, AlfShort, BlankInAddress, NoField, WrongUnit, NoCell, NegativeShift}
use Rattle.mixal_asm.specs.declared.fault.AsmKind.{AsmKind}
use Rattle.mixal_asm.specs.declared.fault.AsmKind.TheVariants.{Text, Inserted, DefinedTwice, AddressTooLarge, LocationOutOfRange, NoEnd, StartOutOfRange, SourceTooLong}
use Rattle.mixal_asm.specs.declared.diagnostic.Warning.{Warning}
use Rattle.mixal_asm.specs.declared.diagnostic.Warning.TheVariants.{UndefinedSymbol, Slip as OfSlip, BehindEnd}

-- ---- a fault

-- a location beyond the last is that of a word, or what ORIG asks for
abbrev pub location_part : Result Mnemonic TextFault → Part
location_part (Ok Orig) = part.Address
location_part code = part.Operation

-- the line that a fault of a line is about: what END meets is at fault where it is used
abbrev pub kind_line_number : ℕ → AsmKind → ℕ
kind_line_number n (Inserted line m) = line
kind_line_number n _ = n

-- the bytes of that line, if it is about some
abbrev pub kind_span : List ℕ → AsmKind → Option Span
kind_span line (Text m) = Some m.at
kind_span line (Inserted n m) = Some m.at
kind_span line DefinedTwice = Some (part_span line part.Label)
kind_span line AddressTooLarge = Some (part_span line part.Address)
kind_span line LocationOutOfRange = Some (part_span line (location_part (op_of_line line)))
kind_span line NoEnd = None
kind_span line StartOutOfRange = Some (part_span line part.Address)
kind_span line SourceTooLong = None

-- ---- a warning

abbrev pub slip_part : Slip → Part
slip_part OperationAsLabel = part.Label
slip_part NoLabel = part.Operation
slip_part AlfCut = part.Address
slip_part AlfShort = part.Address
slip_part BlankInAddress = part.Address
slip_part NoField = part.FPart
slip_part WrongUnit = part.FPart
slip_part NoCell = part.APart
slip_part NegativeShift = part.APart

abbrev pub warning_part : Warning → Part
warning_part (UndefinedSymbol symbol) = part.APart
warning_part (OfSlip slip) = slip_part slip
warning_part BehindEnd = part.Statement
