-- What a line uses, and what it has that is allowed and hardly meant (1.3.2).
use Rattle.std.specs.Prelude.{◌≡◌, ℕ, ◌==◌, ◌&&◌, ◌||◌, not, Bool, true, false, List, [], ◌∷◌, take, drop, length, nat_lt, is_some, is_none, Option, Some, None, Result, Ok, Err}
use Rattle.std.specs.List.{list_all, before_first, after_first}
use Rattle.std.specs.Char.{is_ascii_digit}
use Rattle.mix_lines.specs.Lines.{is_blank, begins_with}
use Rattle.mixal_text.specs.declared.fault.TextFault.{TextFault}
use Rattle.mixal_text.specs.declared.misread.Misread.{Misread}
use Rattle.mixal_text.specs.declared.label.Label.{Label}
use Rattle.mixal_text.specs.declared.label.Label.TheVariants as label
use Rattle.mixal_text.specs.declared.op.Mnemonic.{Mnemonic}
use Rattle.mixal_text.specs.declared.op.Op.{Op}
use Rattle.mixal_text.specs.declared.op.Op.TheVariants.{Machine, Equ, Alf}
use Rattle.mixal_text.specs.declared.slips.Slip.{Slip}
use Rattle.mixal_text.specs.declared.slips.Slip.TheVariants.{OperationAsLabel, NoLabel, AlfCut, AlfShort, BlankInAddress, NoField, WrongUnit, NoCell, NegativeShift}
use Rattle.mixal_text.specs.Words.{is_nonblank, after_blanks, after_word}
use Rattle.mixal_text.specs.Op.{op_of}
use Rattle.mixal_text.specs.Symbol.{symbol_of}
use Rattle.mixal_text.specs.Alf.{is_quote, alf_start}
use Rattle.mixal_text.specs.Line.{LineValue, Remark, Code, loc_of_line, line_of}
use Rattle.mixal_text.specs.Address.{is_delimiter}
use Rattle.mixal_text.specs.WrittenF.{op_refuses}
use Rattle.mixal_text.specs.Refused.{asks_unit, has_bad_control, lacks_cell, shifts_back, step_of}

-- ---- the symbol that is the A-part of an instruction

abbrev pub symbol_used_by : Op → List ℕ → Option (List ℕ)
symbol_used_by (Machine code f) address = symbol_of (before_first is_delimiter address)
symbol_used_by _ address = None

-- the OP and the ADDRESS of a line that can be read; a remark has none
abbrev pub op_in : Result LineValue Misread → Option Op
op_in (Err fault) = None
op_in (Ok Remark) = None
op_in (Ok (Code loc code address)) = Some code

abbrev pub address_in : Result LineValue Misread → List ℕ
address_in (Err fault) = []
address_in (Ok Remark) = []
address_in (Ok (Code loc code address)) = address

abbrev pub symbol_in : Option Op → List ℕ → Option (List ℕ)
symbol_in None address = None
symbol_in (Some code) address = symbol_used_by code address

unfoldable pub symbol_used : List ℕ → Option (List ℕ)
symbol_used text = symbol_in (op_in (line_of text)) (address_in (line_of text))

-- ---- an operation in the place of LOC

abbrev pub is_read : Result Mnemonic TextFault → Bool
is_read (Ok mnemonic) = true
is_read (Err fault) = false

abbrev pub is_operation : Option Label → Bool
is_operation None = false
is_operation (Some (label.Name symbol)) = is_read (op_of symbol)
is_operation (Some (label.Local d)) = false

abbrev pub has_operation : Result (Option Label) TextFault → Bool
has_operation (Ok loc) = is_operation loc
has_operation (Err fault) = false

abbrev pub loc_slips : Slip → List ℕ → Bool
loc_slips OperationAsLabel text = has_operation (loc_of_line text)
loc_slips _ text = false

-- ---- no LOC

abbrev pub has_no_loc : Result (Option Label) TextFault → Bool
has_no_loc (Ok loc) = is_none loc
has_no_loc (Err fault) = false

-- ---- an ALF without quotation marks whose text goes on after the five characters, or begins after them

abbrev pub is_cut : List ℕ → Bool
is_cut text = begins_with is_nonblank (drop 5 text) || (list_all is_blank (take 5 text) && not (list_all is_blank text))

-- by the first nonblank byte after OP, which may be a quotation mark, and by what stands after OP
abbrev pub alf_is_cut : List ℕ → List ℕ → Bool
alf_is_cut [] rest = false
alf_is_cut (first ∷ text) rest = not (is_quote first) && is_cut (alf_start rest)

-- ---- an ALF whose quotation has fewer than five characters

abbrev pub alf_is_short : List ℕ → Bool
alf_is_short [] = false
alf_is_short (first ∷ text) = is_quote first && nat_lt (length (before_first is_quote text)) 5

-- ---- an ADDRESS that one blank ends, and then what reads on as a part of it

-- a comma, or a sign of an operation and a number, or an opening bracket and a digit
abbrev pub is_sign : ℕ → Bool
is_sign byte = byte == 43 || byte == 45 || byte == 42 || byte == 47

abbrev pub reads_on : List ℕ → Bool
reads_on [] = false
reads_on (byte ∷ rest) =
    byte == 44 || (byte == 40 && begins_with is_ascii_digit rest) || (is_sign byte && begins_with is_ascii_digit (after_blanks rest))

-- by the ADDRESS, and by what stands after OP
abbrev pub address_is_cut : List ℕ → List ℕ → Bool
address_is_cut [] rest = false
address_is_cut (byte ∷ address) rest = reads_on (after_word rest)

-- ---- a line that can be read

-- what stands after OP
abbrev pub after_op : List ℕ → List ℕ
after_op text = after_word (after_first is_blank text)

abbrev pub is_alf : Op → Bool
is_alf (Alf word) = true
is_alf _ = false

abbrev pub is_equ : Op → Bool
is_equ Equ = true
is_equ _ = false

-- by OP, ADDRESS and the line
abbrev pub slips : Slip → Op → List ℕ → List ℕ → Bool
slips OperationAsLabel code address text = false
slips NoLabel code address text = is_equ code && has_no_loc (loc_of_line text)
slips AlfCut code address text = is_alf code && alf_is_cut (after_blanks (after_op text)) (after_op text)
slips AlfShort code address text = is_alf code && alf_is_short (after_blanks (after_op text))
slips BlankInAddress code address text = address_is_cut address (after_op text)
slips NoField code address text = op_refuses code address
slips WrongUnit code address text = asks_unit code address || has_bad_control (step_of code address)
slips NoCell code address text = lacks_cell (step_of code address)
slips NegativeShift code address text = shifts_back (step_of code address)

abbrev pub slips_in : Slip → Option Op → List ℕ → List ℕ → Bool
slips_in slip None address text = false
slips_in slip (Some code) address text = slips slip code address text

-- whether a line has a slip. That of LOC alone is one whatever follows it
unfoldable pub has_slip : List ℕ → Slip → Bool
has_slip text slip = loc_slips slip text || slips_in slip (op_in (line_of text)) (address_in (line_of text)) text

-- what is known of a line that was read
pub record IsRead (text : List ℕ) (code : Option Op) (written : List ℕ) : Type 0 where
  pub op : code ≡ op_in (line_of text)
  pub address : written ≡ address_in (line_of text)

-- whether a line reads as one that belongs to a program
unfoldable pub is_code : List ℕ → Bool
is_code text = is_some (op_in (line_of text))
