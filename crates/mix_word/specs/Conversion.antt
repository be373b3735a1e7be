-- NUM and CHAR (1.3.1): between ten bytes that stand for decimal digits, and a number.
use Rattle.std.specs.Prelude.{ℕ, ◌+◌, ◌*◌, ◌/◌, ◌%◌, ◌^◌, Bool, nat_le}
use Rattle.mix_word.specs.Word.{WordValue, word, byte_of}

-- the digit that byte i stands for
abbrev pub digit_of : WordValue → ℕ → ℕ
digit_of w i = byte_of w i % 10

abbrev pub five_digits_of : WordValue → ℕ
five_digits_of w =
    digit_of w 1 * 10 ^ 4 + digit_of w 2 * 10 ^ 3 + digit_of w 3 * 10 ^ 2 + digit_of w 4 * 10 + digit_of w 5

-- the number of the ten digits of a and then x
abbrev pub numeric_value : WordValue → WordValue → ℕ
numeric_value a x = five_digits_of a * 10 ^ 5 + five_digits_of x

-- that number with the sign of a, and whether it is too large for a word
abbrev pub num_of : WordValue → WordValue → WordValue × Bool
num_of a x = (word a.sign (numeric_value a x % 64 ^ 5), nat_le (64 ^ 5) (numeric_value a x))

-- the code of the decimal digit of n that has the weight 10 ^ k
abbrev pub digit_code : ℕ → ℕ → ℕ
digit_code n k = 30 + n / 10 ^ k % 10

-- five bytes with the codes of five digits, of which the last has the weight 10 ^ k
abbrev pub digit_codes : ℕ → ℕ → ℕ
digit_codes n k =
    digit_code n (k + 4) * 64 ^ 4 + digit_code n (k + 3) * 64 ^ 3 + digit_code n (k + 2) * 64 ^ 2
    + digit_code n (k + 1) * 64 + digit_code n k

-- the ten decimal digits of a as characters; signs stay
abbrev pub digit_characters_of : WordValue → WordValue → WordValue × WordValue
digit_characters_of a x = (word a.sign (digit_codes a.magnitude 5), word x.sign (digit_codes a.magnitude 0))
