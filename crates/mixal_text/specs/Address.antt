-- The ADDRESS of a symbolic operation (1.3.2): A-part, index and F, each of which may be left out.
use Rattle.std.specs.Prelude.{◌≡◌, ℕ, ◌+◌, ◌-◌, ◌==◌, Bool, List, [], ◌∷◌, length, drop, is_none, Option, Some, None, unwrap_or, Result, Ok, Err, ◌||◌, if◌then◌else◌}
use Rattle.std.specs.List.{list_any, before_first, after_first}
use Rattle.mix_word.specs.Word.{WordValue, zero_word}
use Rattle.mixal_text.specs.declared.fault.TextFault.TheVariants.{BadExpression}
use Rattle.mixal_text.specs.declared.local.Direction.{Direction}
use Rattle.mixal_text.specs.declared.local.Direction.TheVariants.{Here, Backward, Forward}
use Rattle.mixal_text.specs.declared.local.Local.{Local}
use Rattle.mixal_text.specs.declared.misread.Misread.{Misread}
use Rattle.mixal_text.specs.declared.op.Op.{Op}
use Rattle.mixal_text.specs.declared.op.Op.TheVariants.{Machine}
use Rattle.mixal_text.specs.declared.addresses.APart.{APart}
use Rattle.mixal_text.specs.declared.addresses.APart.TheVariants as part
use Rattle.mixal_text.specs.declared.addresses.Operand.{Operand}
use Rattle.mixal_text.specs.Misread.{misread, or_at}
use Rattle.mixal_text.specs.Steps.{◌>>=◌}
use Rattle.mixal_text.specs.Local.{local_of}
use Rattle.mixal_text.specs.Symbol.{symbol_of}
use Rattle.mixal_text.specs.Names.{NamesValue}
use Rattle.mixal_text.specs.Operator.{operator_at}
use Rattle.mixal_text.specs.Atom.{atom_in}
use Rattle.mixal_text.specs.Expression.{expression_at, whole_expression}
use Rattle.mixal_text.specs.Part.{is_open, is_comma, from_first, up_to, part_or_fault, left_over, left_at, brackets_at}

-- an A-part: a value, or a future reference to a symbol or to dF, or a literal
pub data APartValue : Type 0 where
  Value : WordValue → APartValue
  Name : List ℕ → APartValue
  Ahead : ℕ → APartValue
  Literal : List ℕ → APartValue

pub record OperandValue : Type 0 where
  pub a : APartValue
  pub index : ℕ
  pub f : ℕ

abbrev pub is_equals : ℕ → Bool
is_equals byte = byte == 61

-- what ends an A-part
abbrev pub is_delimiter : ℕ → Bool
is_delimiter byte = byte == 44 || byte == 40

-- ---- the A-part

-- of the local symbols only dF is a future reference
abbrev pub local_ahead : ℕ → Direction → Option APartValue
local_ahead d Here = None
local_ahead d Backward = None
local_ahead d Forward = Some (Ahead d)

-- a symbol that is not defined yet
abbrev pub undefined_name : NamesValue → List ℕ → Option APartValue
undefined_name names name = if is_none (names.value name) then Some (Name name) else None

-- a future reference: dF, or a symbol that is not defined yet
abbrev pub reference_of : NamesValue → Option Local → Option (List ℕ) → Option APartValue
reference_of names (Some l) symbol = local_ahead l.digit l.direction
reference_of names None (Some name) = undefined_name names name
reference_of names None None = None

-- the future reference that an atom is. It stands alone: no operator begins what follows it
abbrev pub reference_with : NamesValue → List ℕ → List ℕ → Option APartValue
reference_with names atom rest =
    if is_none (operator_at rest) then reference_of names (local_of atom) (symbol_of atom) else None

-- a future reference, after which nothing may be left, or else a value
abbrev pub reference_or_value : NamesValue → WordValue → List ℕ → Option APartValue → Result APartValue Misread
reference_or_value names here text (Some reference) =
    left_at (length (atom_in text)) (drop (length (atom_in text)) text) reference
reference_or_value names here text None = do
  value ← whole_expression names here text
  Ok (Value value)

-- an A-part that is no literal; where it is left out it is +0
unfoldable pub a_part_of : NamesValue → WordValue → List ℕ → Result APartValue Misread
a_part_of names here [] = Ok (Value zero_word)
a_part_of names here (byte ∷ rest) =
    let text : List ℕ = byte ∷ rest in
    reference_or_value names here text (reference_with names (atom_in text) (drop (length (atom_in text)) text))

-- ---- the index and the whole ADDRESS. What stands at a place has its bytes counted from there

-- an index: a comma and an expression, from 0 to 6; where it is left out it is 0
unfoldable pub index_at : NamesValue → WordValue → ℕ → List ℕ → Result ℕ Misread
index_at names here place [] = Ok 0
index_at names here place (byte ∷ text) =
    if is_comma byte then (do
      value ← expression_at names here (place + 1) text
      index ← or_at (part_or_fault (up_to 6) value.0) (place + 1) value.1
      left_at value.1 (drop (value.1 - (place + 1)) text) index)
    else Err (left_over place (byte ∷ text))

-- an A-part, and after it the index up to the opening bracket and F from 0 to 63; where F is left out it is the normal one
unfoldable pub operand_at : NamesValue → WordValue → ℕ → APartValue → ℕ → List ℕ → Result OperandValue Misread
operand_at names here normal_f a place rest = do
  index ← index_at names here place (before_first is_open rest)
  f ← brackets_at (up_to 63) names here (place + length (before_first is_open rest)) (from_first is_open rest)
  Ok record { a = a; index = index; f = unwrap_or f normal_f }

-- a literal =W-value=, which goes up to the next equals sign, by what stands after the first. One that does not end is at fault
-- with that sign
unfoldable pub literal_operand_of : NamesValue → WordValue → ℕ → List ℕ → Result OperandValue Misread
literal_operand_of names here normal_f text =
    if list_any is_equals text
    then operand_at names here normal_f (Literal (before_first is_equals text)) (length (before_first is_equals text) + 2) (after_first is_equals text)
    else Err (misread BadExpression 0 (length text + 1))

-- an operand whose A-part is no literal, and goes up to the first comma or opening bracket
unfoldable pub plain_operand_of : NamesValue → WordValue → ℕ → List ℕ → Result OperandValue Misread
plain_operand_of names here normal_f text = do
  a ← a_part_of names here (before_first is_delimiter text)
  operand_at names here normal_f a (length (before_first is_delimiter text)) (from_first is_delimiter text)

-- the operand that an ADDRESS says, where F is `normal_f` if it is left out
unfoldable pub address_of : NamesValue → WordValue → ℕ → List ℕ → Result OperandValue Misread
address_of names here normal_f [] = plain_operand_of names here normal_f []
address_of names here normal_f (byte ∷ rest) =
    if is_equals byte then literal_operand_of names here normal_f rest
    else plain_operand_of names here normal_f (byte ∷ rest)

-- a symbol as A-part is a future reference: it is not defined
abbrev pub IsFuture : NamesValue → APartValue → Type 0
IsFuture names (Name name) = names.value name ≡ None
IsFuture names _ = Unit {0}

-- ---- what was read

-- the F that a symbolic operation has where none is written
abbrev pub f_of : Op → ℕ
f_of (Machine code f) = f
f_of _ = 0

abbrev pub IsMachine : Op → Type 0
IsMachine (Machine code f) = Unit {0}
IsMachine _ = ⊥

-- an A-part that was read, without where a literal lies
abbrev pub value_of_a_part : APart → APartValue
value_of_a_part (part.Value word) = Value word
value_of_a_part (part.Name symbol) = Name symbol
value_of_a_part (part.Ahead d) = Ahead d
value_of_a_part (part.Literal text) = Literal text.now

abbrev pub value_of_operand : Operand → OperandValue
value_of_operand operand = record { a = value_of_a_part operand.a; index = operand.index; f = operand.f }
