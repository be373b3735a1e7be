-- What of an ADDRESS needs the values of its symbols at its own line (1.3.2).
use Rattle.std.specs.Prelude.{ℕ, ◌||◌, Bool, true, false, List, [], ◌∷◌, is_some, Option, Some, None, Result, Ok, Err, if◌then◌else◌}
use Rattle.std.specs.List.{before_first}
use Rattle.mixal_text.specs.declared.misread.Misread.{Misread}
use Rattle.mixal_text.specs.declared.local.Direction.{Direction}
use Rattle.mixal_text.specs.declared.local.Direction.TheVariants.{Here, Backward, Forward}
use Rattle.mixal_text.specs.declared.local.Local.{Local}
use Rattle.mixal_text.specs.declared.op.Op.{Op}
use Rattle.mixal_text.specs.declared.op.Op.TheVariants.{Machine}
use Rattle.mixal_text.specs.Local.{local_of}
use Rattle.mixal_text.specs.Symbol.{symbol_of}
use Rattle.mixal_text.specs.Line.{LineValue, Remark, Code, line_of}
use Rattle.mixal_text.specs.Address.{is_equals, is_delimiter}
use Rattle.mixal_text.specs.WrittenF.{after_a_part}

-- an A-part that is dF or an ordinary symbol alone
abbrev pub is_forward : Direction → Bool
is_forward Here = false
is_forward Backward = false
is_forward Forward = true

abbrev pub is_ahead : Option Local → Bool
is_ahead None = false
is_ahead (Some l) = is_forward l.direction

abbrev pub is_alone : List ℕ → Bool
is_alone a_part = is_ahead (local_of a_part) || is_some (symbol_of a_part)

-- of an instruction: all but an A-part that is a literal or a symbol alone, which may wait
abbrev pub valued_address : List ℕ → List ℕ
valued_address [] = []
valued_address (byte ∷ rest) =
    if is_equals byte || is_alone (before_first is_delimiter (byte ∷ rest)) then after_a_part (byte ∷ rest) else byte ∷ rest

abbrev pub valued_by : Op → List ℕ → List ℕ
valued_by (Machine code f) address = valued_address address
valued_by _ address = address

abbrev pub valued_in : Result LineValue Misread → List ℕ
valued_in (Err fault) = []
valued_in (Ok Remark) = []
valued_in (Ok (Code loc code address)) = valued_by code address

-- of a line that can be read
unfoldable pub valued_part : List ℕ → List ℕ
valued_part text = valued_in (line_of text)
