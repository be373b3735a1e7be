-- The memory as bytes: a cell is six, its sign and its five bytes; cell N begins at byte 6N.
use Rattle.std.specs.Prelude.{ℕ, ℤ, pos, negsuc, ◌+ℤ◌, Bool, ◌/◌, ◌%◌, ◌==◌, ◌&&◌, nat_le, nat_lt, List, [], ◌∷◌, codes, drop, length, Option, None, Some, option_and_then, if◌then◌else◌}
use Rattle.std.specs.Char.{is_digit}
use Rattle.std.specs.List.{list_all, starts_with}
use Rattle.std.specs.Str.Parse.{digits_value, without_leading_plus}
use Rattle.mix_word.specs.declared.word.Sign.{Sign}
use Rattle.mix_word.specs.declared.word.Sign.TheVariants.{Plus, Minus}
use Rattle.mix_word.specs.Word.{WordValue, byte_of, word_of_bytes}
use Rattle.mix_machine.specs.World.{WorldState, cell_of}

-- the bytes of a cell: its sign, 0 for + and 1 for -, and its five bytes
abbrev pub sign_byte : Sign → ℕ
sign_byte Plus = 0
sign_byte Minus = 1

abbrev pub cell_byte : WordValue → ℕ → ℕ
cell_byte word i = if i == 0 then sign_byte word.sign else byte_of word i

-- a byte of the memory
abbrev pub memory_byte : WorldState → ℕ → ℕ
memory_byte w at = cell_byte (cell_of w (at / 6)) (at % 6)

-- the word of the six bytes of a cell, unless the first is no sign or another is over 63
abbrev pub sign_of : ℕ → Sign
sign_of byte = if byte == 0 then Plus else Minus

abbrev pub word_of : List ℕ → Option WordValue
word_of [] = None
word_of (sign ∷ bytes) = if nat_le sign 1 && list_all (λ byte. nat_le byte 63) bytes then Some (word_of_bytes (sign_of sign) bytes) else None

-- whether a text is one digit in the radix or more, and nothing else
unfoldable pub is_numeral : ℕ → List ℕ → Bool
is_numeral radix text = nat_lt 0 (length text) && list_all (λ c. is_digit c radix) text

-- a number, if it is one of a byte of the memory or of its end
abbrev pub within : ℕ → Option ℕ
within n = if nat_le n 24000 then Some n else None

-- the byte of the number that digits write
abbrev pub byte_written : ℕ → List ℕ → Option ℕ
byte_written radix text = if is_numeral radix text then within (digits_value radix text) else None

-- the byte that a text names: by hexadecimal digits after `0x`, or by decimal digits; a plus may stand before the digits
abbrev pub byte_named : List ℕ → Option ℕ
byte_named text =
    if starts_with (λ a b. a == b) text (codes "0x") then byte_written 16 (without_leading_plus (drop 2 text)) else byte_written 10 (without_leading_plus text)

-- the byte of a whole number
abbrev pub byte_at : ℤ → Option ℕ
byte_at (pos n) = within n
byte_at (negsuc n) = None

-- the byte that a reference with an offset names
abbrev pub byte_of_reference : List ℕ → ℤ → Option ℕ
byte_of_reference text offset = option_and_then (λ start. byte_at (pos start +ℤ offset)) (byte_named text)
