-- A word is a sign and a magnitude, whose five digits to the base 64 are its bytes (1.3.1).
use Rattle.std.specs.Prelude.{ℕ, ◌+◌, ◌-◌, ◌*◌, ◌/◌, ◌%◌, ◌^◌, ◌==◌, Bool, true, false, not, ◌&&◌, ◌||◌, ℤ, pos, negsuc, neg_ℤ, suc, List, [], ◌∷◌, Option, Some, None, if◌then◌else◌}
use Rattle.mix_word.specs.declared.word.Sign.{Sign}
use Rattle.mix_word.specs.declared.word.Sign.TheVariants.{Plus, Minus}
use Rattle.mix_word.specs.declared.word.Parts.{Parts}

pub record WordValue : Type 0 where
  pub sign : Sign
  pub magnitude : ℕ

abbrev pub word : Sign → ℕ → WordValue
word s m = record { sign = s; magnitude = m }

abbrev pub plus : ℕ → WordValue
plus m = word Plus m

abbrev pub minus : ℕ → WordValue
minus m = word Minus m

-- +0
abbrev pub zero_word : WordValue
zero_word = plus 0

-- whether a sign is +
abbrev pub is_plus : Sign → Bool
is_plus Plus = true
is_plus Minus = false

abbrev pub is_same_sign : Sign → Sign → Bool
is_same_sign Plus s = is_plus s
is_same_sign Minus s = not (is_plus s)

-- whether two words are the same: +0 and -0 are not
abbrev pub is_same_word : WordValue → WordValue → Bool
is_same_word v w = is_same_sign v.sign w.sign && v.magnitude == w.magnitude

abbrev pub opposite : Sign → Sign
opposite Plus = Minus
opposite Minus = Plus

abbrev pub signed : Sign → ℕ → ℤ
signed Plus m = pos m
signed Minus m = neg_ℤ (pos m)

-- the number of a word, which is the same for +0 and -0
abbrev pub number_of : WordValue → ℤ
number_of w = signed w.sign w.magnitude

-- whether a word's number is 0 or more, as that of -0 is
abbrev pub is_natural : WordValue → Bool
is_natural w = is_plus w.sign || w.magnitude == 0

-- the number of a word where it is 0 or more
abbrev pub natural_of : WordValue → Option ℕ
natural_of w = if is_natural w then Some w.magnitude else None

-- the word of a number whose magnitude fits one; 0 is +0
abbrev pub word_of_number : ℤ → WordValue
word_of_number (pos n) = plus n
word_of_number (negsuc n) = minus (suc n)

-- byte i, 1 to 5, of which byte 1 is the most significant
abbrev pub byte_of : WordValue → ℕ → ℕ
byte_of w i = w.magnitude / 64 ^ (5 - i) % 64

-- the five bytes, from the most significant one on
abbrev pub bytes_of : WordValue → List ℕ
bytes_of w = byte_of w 1 ∷ byte_of w 2 ∷ byte_of w 3 ∷ byte_of w 4 ∷ byte_of w 5 ∷ []

-- the number to the base 64 whose digits are bytes, after those of a number before them
abbrev pub magnitude_of_bytes : ℕ → List ℕ → ℕ
magnitude_of_bytes before [] = before
magnitude_of_bytes before (byte ∷ bytes) = magnitude_of_bytes (before * 64 + byte) bytes

-- the word of a sign and bytes, from the most significant one on
abbrev pub word_of_bytes : Sign → List ℕ → WordValue
word_of_bytes s bytes = word s (magnitude_of_bytes 0 bytes)

abbrev pub negation_of : WordValue → WordValue
negation_of w = word (opposite w.sign) w.magnitude

-- the parts of an instruction word: bytes 1 and 2 as one number, and bytes 3, 4 and 5
abbrev pub parts_of : WordValue → Parts
parts_of w =
    record {
      sign = w.sign;
      address = w.magnitude / 64 ^ 3;
      index = byte_of w 3;
      f = byte_of w 4;
      code = byte_of w 5;
    }

-- the word of these parts
abbrev pub word_of_parts : Parts → WordValue
word_of_parts p = word p.sign (((p.address * 64 + p.index) * 64 + p.f) * 64 + p.code)
