-- A line (1.3.2): a remark, or LOC, OP and ADDRESS, parted by blanks. Its first fault from the left is the answer.
use Rattle.std.specs.Prelude.{ℕ, ◌<◌, Bool, true, false, ◌||◌, List, [], ◌∷◌, Option, Some, None, option_map, ok_or, Result, Ok, Err, if◌then◌else◌}
use Rattle.std.specs.List.{list_all, before_first, after_first}
use Rattle.mix_word.specs.Operation.{operation_code, normal_f_of}
use Rattle.mix_lines.specs.Lines.{is_blank, is_comment}
use Rattle.mixal_text.specs.declared.fault.TextFault.{TextFault}
use Rattle.mixal_text.specs.declared.fault.TextFault.TheVariants.{BadByte, BadSymbol}
use Rattle.mixal_text.specs.declared.label.Label.{Label}
use Rattle.mixal_text.specs.declared.misread.Misread.{Misread}
use Rattle.mixal_text.specs.declared.parts.Part.{Part}
use Rattle.mixal_text.specs.declared.parts.Part.TheVariants as part
use Rattle.mixal_text.specs.declared.op.Mnemonic.{Mnemonic}
use Rattle.mixal_text.specs.declared.op.Mnemonic.TheVariants.{Machine, Equ, Orig, Con, Alf, End}
use Rattle.mixal_text.specs.declared.op.Op.{Op}
use Rattle.mixal_text.specs.declared.op.Op.TheVariants as op
use Rattle.mixal_text.specs.declared.line.Line.{Line}
use Rattle.mixal_text.specs.declared.line.Line.TheVariants as line
use Rattle.mixal_text.specs.Steps.{◌>>=◌}
use Rattle.mixal_text.specs.Words.{first_word, after_word}
use Rattle.mixal_text.specs.Label.{label_of}
use Rattle.mixal_text.specs.Op.{are_characters, op_of, address_after}
use Rattle.mixal_text.specs.Parts.{part_misread}
use Rattle.mixal_text.specs.Alf.{alf_word}

-- what a line says
pub data LineValue : Type 0 where
  Remark : LineValue
  Code : Option Label → Op → List ℕ → LineValue

-- LOC, which may be left out
unfoldable pub loc_of : List ℕ → Result (Option Label) TextFault
loc_of [] = Ok None
loc_of (byte ∷ rest) =
    if are_characters (byte ∷ rest) then ok_or (option_map (λ (label : Label). Some label) (label_of (byte ∷ rest))) BadSymbol
    else Err BadByte

-- the LOC and the OP of a line, whatever the rest of it is
abbrev pub loc_of_line : List ℕ → Result (Option Label) TextFault
loc_of_line text = loc_of (before_first is_blank text)

abbrev pub op_of_line : List ℕ → Result Mnemonic TextFault
op_of_line text = op_of (first_word (after_first is_blank text))

abbrev pub is_end_op : Result Mnemonic TextFault → Bool
is_end_op (Ok End) = true
is_end_op _ = false

-- a line whose ADDRESS has nothing but MIX characters
abbrev pub with_address : Option Label → Op → List ℕ → Result LineValue TextFault
with_address loc code address = if are_characters address then Ok (Code loc code address) else Err BadByte

-- a line by its LOC, its OP and what stands after that
unfoldable pub line_from : Option Label → Mnemonic → List ℕ → Result LineValue TextFault
line_from loc (Machine operation) rest =
    with_address loc (op.Machine (operation_code operation) (normal_f_of operation)) (address_after operation rest)
line_from loc Equ rest = with_address loc op.Equ (first_word rest)
line_from loc Orig rest = with_address loc op.Orig (first_word rest)
line_from loc Con rest = with_address loc op.Con (first_word rest)
line_from loc End rest = with_address loc op.End (first_word rest)
line_from loc Alf rest = do
  word ← alf_word rest
  Ok (Code loc (op.Alf word) [])

-- a part of a line that was read, or its fault at the bytes of that part
abbrev pub part_at : {A : Type 0} → List ℕ → Part → Result A TextFault → Result A Misread
part_at text p (Ok x) = Ok x
part_at text p (Err fault) = Err (part_misread text p fault)

-- a line without its line end. A comment begins with an asterisk, and a blank line is a remark too
unfoldable pub line_of : List ℕ → Result LineValue Misread
line_of text =
    if is_comment text || list_all is_blank text then Ok Remark
    else (do
      loc ← part_at text part.Label (loc_of (before_first is_blank text))
      code ← part_at text part.Operation (op_of (first_word (after_first is_blank text)))
      part_at text part.Address (line_from loc code (after_word (after_first is_blank text))))

-- a line that was read, without where its ADDRESS lies
abbrev pub value_of_line : Line → LineValue
value_of_line line.Remark = Remark
value_of_line (line.Code loc code address) = Code loc code address.now

-- the code and the normal F of a symbolic operation are bytes of a word
abbrev pub IsOfBytes : Op → Type 0
IsOfBytes (op.Machine code f) = (code < 64) × (f < 64)
IsOfBytes _ = Unit {0}

abbrev pub HasBytes : Line → Type 0
HasBytes line.Remark = Unit {0}
HasBytes (line.Code loc code address) = IsOfBytes code
