-- How words are written: the sign, and each byte as two digits after a blank; and locations.
use Rattle.std.specs.Prelude.{ℕ, ◌+◌, ◌/◌, ◌%◌, List, [], ◌∷◌, ◌++◌}
use Rattle.std.specs.Fmt.{decimal}
use Rattle.mix_word.specs.declared.word.Sign.{Sign}
use Rattle.mix_word.specs.declared.word.Sign.TheVariants.{Plus, Minus}
use Rattle.mix_word.specs.Word.{WordValue, byte_of}

abbrev pub sign_text : Sign → List ℕ
sign_text Plus = 43 ∷ []
sign_text Minus = 45 ∷ []

-- a blank and two digits
abbrev pub byte_text : ℕ → List ℕ
byte_text n = 32 ∷ (48 + n / 10) ∷ (48 + n % 10) ∷ []

-- the number of a cell, or a location, in four digits
unfoldable pub location_text : ℕ → List ℕ
location_text n = decimal (n / 1000) ++ decimal (n / 100 % 10) ++ decimal (n / 10 % 10) ++ decimal (n % 10)

-- a word: - 01 16 03 05 04
unfoldable pub word_text : WordValue → List ℕ
word_text w =
    sign_text w.sign ++ byte_text (byte_of w 1) ++ byte_text (byte_of w 2) ++ byte_text (byte_of w 3)
    ++ byte_text (byte_of w 4) ++ byte_text (byte_of w 5)

-- the sign and the two bytes of an index register: + 02 36
unfoldable pub short_text : WordValue → List ℕ
short_text w = sign_text w.sign ++ byte_text (byte_of w 4) ++ byte_text (byte_of w 5)
