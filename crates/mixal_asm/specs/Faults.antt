-- All faults of a source (1.3.2): where a line is refused, another stands in its place, so that the lines after it can be read.
use Rattle.std.specs.Prelude.{ℕ, zero, suc, ◌==◌, ◌&&◌, nat_lt, nat_le, Bool, List, [], ◌∷◌, ◌++◌, length, codes, Option, Some, None, Result, Ok, Err, if◌then◌else◌}
use Rattle.std.specs.List.{list_any}
use Rattle.mix_lines.specs.Lines.{lines}
use Rattle.mixal_text.specs.declared.fault.TextFault.{TextFault}
use Rattle.mixal_text.specs.declared.label.Label.{Label}
use Rattle.mixal_text.specs.declared.op.Mnemonic.{Mnemonic}
use Rattle.mixal_text.specs.Line.{LineValue, Code, loc_of_line, op_of_line}
use Rattle.mixal_text.specs.declared.op.Mnemonic.TheVariants.{Equ, Orig, Con, End}
use Rattle.mixal_text.specs.declared.op.Op.TheVariants as op
use Rattle.mixal_asm.specs.declared.fault.AsmKind.{AsmKind}
use Rattle.mixal_asm.specs.declared.fault.AsmKind.TheVariants.{NoEnd, SourceTooLong}
use Rattle.mixal_asm.specs.declared.fault.AsmFault.{AsmFault}
use Rattle.mixal_asm.specs.Fault.{kind_number}
use Rattle.mixal_asm.specs.Program.{ProgramValue}
use Rattle.mixal_asm.specs.PassOne.{Before, NamesSoFar, at_first, is_taken, number_after}
use Rattle.mixal_asm.specs.Assembly.{Answer, answer_of, answer_of_line, max_lines, max_source_bytes, fault_at, program_after}

-- ---- what stands in the place of a line that was refused

-- its LOC, if that is a label which no line before defined
abbrev pub kept_loc : NamesSoFar → Result (Option Label) TextFault → Option Label
kept_loc names (Ok loc) = if is_taken names loc then None else loc
kept_loc names (Err fault) = None

-- a line that keeps what its OP is for, and that has no fault of its own: a word, a value, a location or the end
abbrev pub plain_line : Option Label → Result Mnemonic TextFault → LineValue
plain_line loc (Ok Equ) = Code loc op.Equ (codes "0")
plain_line loc (Ok Orig) = Code loc op.Orig (codes "*")
plain_line loc (Ok End) = Code loc op.End (codes "0")
plain_line loc _ = Code loc op.Con (codes "0")

abbrev pub mended_line : NamesSoFar → List ℕ → LineValue
mended_line names text = plain_line (kept_loc names (loc_of_line text)) (op_of_line text)

-- what a line gives in whose place that stands
unfoldable pub mended_answer : Before → List ℕ → Result Answer AsmKind
mended_answer b text =
    if nat_le max_lines (length b.rows) then Err SourceTooLong else answer_of_line b text (mended_line b.names text)

-- ---- a source of which some lines are mended

-- the lines are mended at which a fault was told
abbrev pub is_mended : List AsmFault → ℕ → Bool
is_mended told number = list_any (λ fault. fault.line == number) told

unfoldable pub answer_with : List AsmFault → Before → List ℕ → Result Answer AsmKind
answer_with told b text = if is_mended told (number_after b) then mended_answer b text else answer_of b text

-- the program, or the first fault that is left, as of a source (Assembly)
abbrev pub program_with : List AsmFault → Before → List (List ℕ) → Result ProgramValue AsmFault
program_with told b [] = fault_at (number_after b) [] NoEnd
program_with told b (text ∷ more) =
    program_after (number_after b) text (answer_with told b text) (λ next. program_with told next more)

-- ---- the faults

-- whether a fault was told: its line and its number are those of one
abbrev pub is_told : List AsmFault → AsmFault → Bool
is_told told fault = list_any (λ other. other.line == fault.line && kind_number other.kind == kind_number fault.kind) told

-- the next fault to tell. That which a mended line does not remove is told once
abbrev pub untold : List AsmFault → Result ProgramValue AsmFault → Option AsmFault
untold told (Ok program) = None
untold told (Err fault) = if is_told told fault then None else Some fault

-- that fault, and what follows it. At a line that is mended already it is the last one
abbrev pub told_next : List AsmFault → Option AsmFault → (List AsmFault → List AsmFault) → List AsmFault
told_next told None more = told
told_next told (Some fault) more =
    if is_mended told fault.line then told ++ fault ∷ [] else more (told ++ fault ∷ [])

-- what was told, and at most so many faults more
abbrev pub faults_from : ℕ → List AsmFault → List (List ℕ) → List AsmFault
faults_from zero told texts = told
faults_from (suc n) told texts = told_next told (untold told (program_with told at_first texts)) (λ next. faults_from n next texts)

-- how many faults of a source are told
abbrev pub max_faults : ℕ
max_faults = 100

-- the faults of a source: none if it is a program; else its first, and then those of the source with that line mended
unfoldable pub faults_of : List ℕ → List AsmFault
faults_of source =
    if nat_lt max_source_bytes (length source) then record { line = 1; at = None; kind = SourceTooLong } ∷ []
    else faults_from max_faults [] (lines source)
