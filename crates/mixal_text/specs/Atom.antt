-- Atomic expressions (1.3.2): a number, a symbol, or an asterisk, which is the location of the line.
use Rattle.std.specs.Prelude.{ℕ, ◌^◌, ◌==◌, nat_lt, List, [], ◌∷◌, Option, Some, None, ok_or, Result, Ok, Err, if◌then◌else◌, not, Bool}
use Rattle.std.specs.List.{before_first}
use Rattle.std.specs.Char.{is_ascii_alphanumeric}
use Rattle.mix_word.specs.Word.{WordValue, plus}
use Rattle.mix_lines.specs.Number.{is_digits, decimal_number}
use Rattle.mixal_text.specs.declared.fault.TextFault.{TextFault}
use Rattle.mixal_text.specs.declared.fault.TextFault.TheVariants.{BadSymbol, BadExpression, NumberTooLarge, UndefinedSymbol, NoSuchLocalSymbol}
use Rattle.mixal_text.specs.declared.local.Direction.{Direction}
use Rattle.mixal_text.specs.declared.local.Direction.TheVariants.{Here, Backward, Forward}
use Rattle.mixal_text.specs.declared.local.Local.{Local}
use Rattle.mixal_text.specs.Local.{local_of}
use Rattle.mixal_text.specs.Symbol.{symbol_of}
use Rattle.mixal_text.specs.Names.{NamesValue}

-- neither a letter nor a digit
abbrev pub is_other : ℕ → Bool
is_other byte = not (is_ascii_alphanumeric byte)

-- the atom that begins a text: an asterisk, or a run of letters and digits; where there is none it is missing, and empty
unfoldable pub atom_in : List ℕ → List ℕ
atom_in [] = []
atom_in (byte ∷ rest) = if byte == 42 then 42 ∷ [] else before_first is_other (byte ∷ rest)

-- a number that a word holds; of more than ten digits there is none
abbrev pub number_or_fault : Option ℕ → Result WordValue TextFault
number_or_fault None = Err NumberTooLarge
number_or_fault (Some number) = if nat_lt number (64 ^ 5) then Ok (plus number) else Err NumberTooLarge

-- a local symbol in an expression: dH stands for no value, dB for that of the closest earlier dH, and dF has none yet
abbrev pub local_value : NamesValue → ℕ → Direction → Result WordValue TextFault
local_value names d Here = Err BadSymbol
local_value names d Backward = ok_or (names.back d) NoSuchLocalSymbol
local_value names d Forward = Err UndefinedSymbol

-- a symbol, local or ordinary; a run that is neither is too long
abbrev pub symbol_value : NamesValue → Option Local → Option (List ℕ) → Result WordValue TextFault
symbol_value names (Some l) symbol = local_value names l.digit l.direction
symbol_value names None (Some name) = ok_or (names.value name) UndefinedSymbol
symbol_value names None None = Err BadSymbol

-- the value of an atom, where the asterisk stands for `here`; a missing atom is a bad expression
unfoldable pub atom_value : NamesValue → WordValue → List ℕ → Result WordValue TextFault
atom_value names here [] = Err BadExpression
atom_value names here (byte ∷ rest) =
    if byte == 42 then Ok here
    else (if is_digits (byte ∷ rest) then number_or_fault (decimal_number (byte ∷ rest))
    else symbol_value names (local_of (byte ∷ rest)) (symbol_of (byte ∷ rest)))
