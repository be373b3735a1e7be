-- What there is to say of a source (1.3.2): its faults, and what is allowed in it and hardly meant.
use Rattle.std.specs.Prelude.{ℕ, ◌+◌, ◌==◌, ◌&&◌, ◌||◌, nat_lt, not, Bool, true, false, List, [], ◌∷◌, ◌++◌, length, insert, is_none, Option, Some, None, Result, Ok, Err, codes, if◌then◌else◌}
use Rattle.std.specs.List.{position_or_len}
use Rattle.std.specs.Map.{lookup}
use Rattle.std.specs.Str.{bytes_eq}
use Rattle.mix_lines.specs.Lines.{lines, is_comment, begins_with}
use Rattle.mixal_text.specs.declared.fault.TextFault.{TextFault}
use Rattle.mixal_text.specs.declared.label.Label.{Label}
use Rattle.mixal_text.specs.Parts.{part_span}
use Rattle.mixal_text.specs.declared.slips.Slip.{Slip}
use Rattle.mixal_text.specs.declared.slips.Slip.TheVariants.{OperationAsLabel, NoLabel, AlfCut, AlfShort, BlankInAddress, NoField, WrongUnit, NoCell, NegativeShift}
use Rattle.mixal_text.specs.Line.{is_end_op, loc_of_line, op_of_line}
use Rattle.mixal_text.specs.Slips.{has_slip, is_code, symbol_used}
use Rattle.mixal_asm.specs.declared.fault.AsmFault.{AsmFault}
use Rattle.mixal_asm.specs.declared.diagnostic.Diagnostic.{Diagnostic}
use Rattle.mixal_asm.specs.declared.diagnostic.Finding.{Finding}
use Rattle.mixal_asm.specs.declared.diagnostic.Finding.TheVariants as finding
use Rattle.mixal_asm.specs.declared.diagnostic.Warning.{Warning}
use Rattle.mixal_asm.specs.declared.diagnostic.Warning.TheVariants as warning
use Rattle.mixal_asm.specs.declared.mentions.Role.{Role}
use Rattle.mixal_asm.specs.declared.mentions.Role.TheVariants as role
use Rattle.mixal_asm.specs.Place.{kind_line_number, warning_part}
use Rattle.mixal_asm.specs.Source.{is_that, symbol_of_loc}
use Rattle.mixal_asm.specs.Assembly.{max_source_bytes}
use Rattle.mixal_asm.specs.Faults.{faults_of}

-- ---- the lines up to END, that of END included

abbrev pub is_end : List ℕ → Bool
is_end text = not (is_comment text) && is_end_op (op_of_line text)

abbrev pub up_to_end : List (List ℕ) → List (List ℕ)
up_to_end [] = []
up_to_end (text ∷ more) = text ∷ (if is_end text then [] else up_to_end more)

-- ---- the symbols that lines mention, each with the number of its line

-- the LOC of a line, whatever the rest of it is
abbrev pub label_read : Result (Option Label) TextFault → Option Label
label_read (Ok loc) = loc
label_read (Err fault) = None

abbrev pub label_of : List ℕ → Option Label
label_of text = label_read (loc_of_line text)

-- LOC, or the A-part of the line's instruction
abbrev pub symbol_in : Role → List ℕ → Option (List ℕ)
symbol_in role.Definition text = symbol_of_loc (label_of text)
symbol_in role.Use text = symbol_used text

abbrev pub with_number : ℕ → Option (List ℕ) → List (List ℕ × ℕ)
with_number n None = []
with_number n (Some symbol) = (symbol, n) ∷ []

-- in lines the first of which has this number
abbrev pub mentions_from : Role → ℕ → List (List ℕ) → List (List ℕ × ℕ)
mentions_from r n [] = []
mentions_from r n (text ∷ more) = with_number n (symbol_in r text) ++ mentions_from r (n + 1) more

-- the first line that mentions a symbol
abbrev pub first_line : List (List ℕ × ℕ) → List ℕ → Option ℕ
first_line mentions symbol = lookup (bytes_eq symbol) mentions

-- the first line of a source, up to END, that mentions a symbol. One of too many bytes is not looked at
unfoldable pub first_mention : List ℕ → Role → List ℕ → Option ℕ
first_mention source r symbol =
    if nat_lt max_source_bytes (length source) then None else first_line (mentions_from r 1 (up_to_end (lines source))) symbol

-- ---- warnings

-- a warning of a line, at the bytes that it is about
abbrev pub warning_at : ℕ → List ℕ → Warning → List Diagnostic
warning_at n text w = record { line = n; at = Some (part_span text (warning_part w)); finding = finding.Warning w } ∷ []

-- a symbol that this line is the first to use, and that is the LOC of no line
abbrev pub undefined_at : List (List ℕ × ℕ) → List (List ℕ × ℕ) → ℕ → List ℕ → Option (List ℕ) → List Diagnostic
undefined_at uses definitions n text None = []
undefined_at uses definitions n text (Some symbol) =
    if is_that n (first_line uses symbol) && is_none (first_line definitions symbol) then warning_at n text (warning.UndefinedSymbol symbol) else []

-- a slip, if the line has it
abbrev pub slip_if : ℕ → List ℕ → Bool → Slip → List Diagnostic
slip_if n text has slip = if has then warning_at n text (warning.Slip slip) else []

abbrev pub slip_at : ℕ → List ℕ → Slip → List Diagnostic
slip_at n text slip = slip_if n text (has_slip text slip) slip

-- all slips, in the order in which those of a line are told
abbrev pub all_slips : List Slip
all_slips = OperationAsLabel ∷ NoLabel ∷ AlfCut ∷ AlfShort ∷ BlankInAddress ∷ NoField ∷ WrongUnit ∷ NoCell ∷ NegativeShift ∷ []

abbrev pub slips_at : ℕ → List ℕ → List Slip → List Diagnostic
slips_at n text [] = []
slips_at n text (slip ∷ more) = slip_at n text slip ++ slips_at n text more

-- the warnings of a line, by the symbols that lines use and define
unfoldable pub line_warnings : List (List ℕ × ℕ) → List (List ℕ × ℕ) → ℕ → List ℕ → List Diagnostic
line_warnings uses definitions n text = undefined_at uses definitions n text (symbol_used text) ++ slips_at n text all_slips

abbrev pub warnings_from : List (List ℕ × ℕ) → List (List ℕ × ℕ) → ℕ → List (List ℕ) → List Diagnostic
warnings_from uses definitions n [] = []
warnings_from uses definitions n (text ∷ more) =
    line_warnings uses definitions n text ++ warnings_from uses definitions (n + 1) more

abbrev pub warnings_up_to_end : List (List ℕ) → List Diagnostic
warnings_up_to_end texts = warnings_from (mentions_from role.Use 1 texts) (mentions_from role.Definition 1 texts) 1 texts

-- a line that begins with a percent sign, as the markers of a bundle do
abbrev pub is_marker : List ℕ → Bool
is_marker text = begins_with (λ byte. byte == 37) text

-- of lines behind END the first, before such a one, that reads as if it belonged to the program
abbrev pub behind_from : ℕ → List (List ℕ) → List Diagnostic
behind_from n [] = []
behind_from n (text ∷ more) =
    if is_marker text then [] else (if is_code text then warning_at n text warning.BehindEnd else behind_from (n + 1) more)

abbrev pub after_end_from : ℕ → List (List ℕ) → List Diagnostic
after_end_from n [] = []
after_end_from n (text ∷ more) = if is_end text then behind_from (n + 1) more else after_end_from (n + 1) more

-- the warnings of a source, in the order of its lines. One of too many bytes is not looked at
abbrev pub warnings_of : List ℕ → List Diagnostic
warnings_of source =
    if nat_lt max_source_bytes (length source) then []
    else warnings_up_to_end (up_to_end (lines source)) ++ after_end_from 1 (lines source)

-- ---- faults among warnings

abbrev pub is_warning : Finding → Bool
is_warning (finding.Fault kind) = false
is_warning (finding.Warning w) = true

abbrev pub line_about : AsmFault → ℕ
line_about fault = kind_line_number fault.line fault.kind

-- whether a diagnostic goes after a fault that is put among those before: it is of a later line, or a warning of the same
abbrev pub goes_after : AsmFault → Diagnostic → Bool
goes_after fault d = nat_lt (line_about fault) d.line || (line_about fault == d.line && is_warning d.finding)

abbrev pub of_fault : AsmFault → Diagnostic
of_fault fault = record { line = line_about fault; at = fault.at; finding = finding.Fault fault.kind }

abbrev pub with_fault : List Diagnostic → AsmFault → List Diagnostic
with_fault ds fault = insert ds (position_or_len (goes_after fault) ds) (of_fault fault)

abbrev pub with_faults : List Diagnostic → List AsmFault → List Diagnostic
with_faults ds [] = ds
with_faults ds (fault ∷ faults) = with_faults (with_fault ds fault) faults

-- what there is to say of a source: its faults in their order, put among its warnings by their lines
unfoldable pub diagnostics_of : List ℕ → List Diagnostic
diagnostics_of source = with_faults (warnings_of source) (faults_of source)

-- ---- how a warning is written

-- the symbol that it is about, with which its text begins
abbrev pub warning_subject : Warning → List ℕ
warning_subject (warning.UndefinedSymbol symbol) = symbol
warning_subject (warning.Slip slip) = []
warning_subject warning.BehindEnd = []

abbrev pub slip_name : Slip → List ℕ
slip_name OperationAsLabel = codes "operation-as-label"
slip_name NoLabel = codes "no-label"
slip_name AlfCut = codes "alf-cut"
slip_name AlfShort = codes "alf-short"
slip_name BlankInAddress = codes "blank-in-address"
slip_name NoField = codes "no-field"
slip_name WrongUnit = codes "wrong-unit"
slip_name NoCell = codes "no-cell"
slip_name NegativeShift = codes "negative-shift"

abbrev pub warning_name : Warning → List ℕ
warning_name (warning.UndefinedSymbol symbol) = codes "undefined-symbol"
warning_name (warning.Slip slip) = slip_name slip
warning_name warning.BehindEnd = codes "behind-end"

abbrev pub slip_text : Slip → List ℕ
slip_text OperationAsLabel = codes "the label is the name of an operation: if that is meant, begin the line with a blank"
slip_text NoLabel = codes "EQU without a label defines nothing"
slip_text AlfCut = codes "ALF takes five characters, and its text has more of them, or begins later"
slip_text AlfShort = codes "ALF takes five characters: what is missing becomes blanks"
slip_text BlankInAddress = codes "a blank ends the address: what follows is a remark"
slip_text NoField = codes "the operation takes no such F: the machine will refuse the step"
slip_text WrongUnit = codes "the unit cannot do this: the machine will refuse the step"
slip_text NoCell = codes "the cells are 0 to 3999: the machine will refuse the step, or the jump"
slip_text NegativeShift = codes "a shift by a negative number: the machine will refuse the step"

abbrev pub warning_text : Warning → List ℕ
warning_text (warning.UndefinedSymbol symbol) = codes " is defined nowhere: END makes a cell of 0 for it"
warning_text (warning.Slip slip) = slip_text slip
warning_text warning.BehindEnd = codes "this stands behind END and is not read"
