-- The numbers that stand beside an expression (1.3.2): an index, an F, a field. Each is an expression of its own.
use Rattle.std.specs.Prelude.{ℕ, ◌+◌, ◌==◌, nat_le, Bool, List, [], ◌∷◌, length, Option, Some, None, option_and_then, ok_or, Result, Ok, Err, if◌then◌else◌}
use Rattle.std.specs.List.{before_first, after_first, position_or_len}
use Rattle.std.specs.Prelude.{drop}
use Rattle.mix_word.specs.Word.{WordValue, natural_of}
use Rattle.mixal_text.specs.declared.fault.TextFault.{TextFault}
use Rattle.mixal_text.specs.declared.fault.TextFault.TheVariants.{BadExpression, PartOutOfRange}
use Rattle.mixal_text.specs.declared.misread.Misread.{Misread}
use Rattle.mixal_text.specs.Misread.{misread, or_at}
use Rattle.mixal_text.specs.Steps.{◌>>=◌}
use Rattle.mixal_text.specs.Names.{NamesValue}
use Rattle.mixal_text.specs.Expression.{whole_at}

-- an opening bracket, a closing bracket, a comma
abbrev pub is_open : ℕ → Bool
is_open byte = byte == 40

abbrev pub is_close : ℕ → Bool
is_close byte = byte == 41

abbrev pub is_comma : ℕ → Bool
is_comma byte = byte == 44

-- a text from the first byte on that passes a test; nothing where none does
abbrev pub from_first : (ℕ → Bool) → List ℕ → List ℕ
from_first test text = drop (position_or_len test text) text

-- a number from 0 to a limit
abbrev pub up_to : ℕ → ℕ → Option ℕ
up_to limit n = if nat_le n limit then Some n else None

-- what a part makes of the number of a value, or a part out of range
abbrev pub part_or_fault : {A : Type 0} → (ℕ → Option A) → WordValue → Result A TextFault
part_or_fault takes value = ok_or (option_and_then takes (natural_of value)) PartOutOfRange

-- what is left over
abbrev pub left_over : ℕ → List ℕ → Misread
left_over place text = misread BadExpression place (place + length text)

-- a text that may only be empty; what is left over is a bad expression
abbrev pub left_at : {A : Type 0} → ℕ → List ℕ → A → Result A Misread
left_at place [] part = Ok part
left_at place (byte ∷ rest) part = Err (left_over place (byte ∷ rest))

-- a closing bracket that is due; where none stands it is missed at the end
abbrev pub if_closed : ℕ → List ℕ → WordValue → Result WordValue Misread
if_closed place [] value = Err (misread BadExpression place place)
if_closed place (bracket ∷ rest) value = Ok value

-- the value of an expression that a closing bracket ends
unfoldable pub closed_at : NamesValue → WordValue → ℕ → List ℕ → Result WordValue Misread
closed_at names here place text = do
  value ← whole_at names here place (before_first is_close text)
  if_closed (place + length (before_first is_close text)) (from_first is_close text) value

-- the part in brackets with which a text ends: (E), tested after its bracket has closed. It may be left out
unfoldable pub brackets_at : {A : Type 0} → (ℕ → Option A) → NamesValue → WordValue → ℕ → List ℕ → Result (Option A) Misread
brackets_at takes names here place [] = Ok None
brackets_at takes names here place (bracket ∷ text) = do
  value ← closed_at names here (place + 1) text
  part ← or_at (part_or_fault takes value) (place + 1) (place + 1 + length (before_first is_close text))
  left_at (place + 1 + length (before_first is_close text) + 1) (after_first is_close text) (Some part)
