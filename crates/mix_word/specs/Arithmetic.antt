-- Sums, products and quotients of words, over whole numbers (1.3.1).
use Rattle.std.specs.Prelude.{ℕ, zero, suc, ◌+◌, ◌*◌, ◌/◌, ◌%◌, ◌^◌, ℤ, pos, negsuc, ◌+ℤ◌, Bool, nat_le, ◌==◌, ◌||◌, unsigned_abs, Option, Some, None, if◌then◌else◌}
use Rattle.mix_word.specs.declared.word.Sign.{Sign}
use Rattle.mix_word.specs.declared.word.Sign.TheVariants.{Plus, Minus}
use Rattle.mix_word.specs.Word.{WordValue, word, number_of}

-- the sign of a number, and of zero the sign that is given
abbrev pub sign_of_number : Sign → ℤ → Sign
sign_of_number s (pos zero) = s
sign_of_number s (pos (suc n)) = Plus
sign_of_number s (negsuc n) = Minus

-- a number as a word, and whether it is too large for one
abbrev pub cut_to_word : Sign → ℤ → WordValue × Bool
cut_to_word s t =
    (word (sign_of_number s t) (unsigned_abs t % 64 ^ 5), nat_le (64 ^ 5) (unsigned_abs t))

-- the sum, where zero takes the sign of the first word
abbrev pub sum_of : WordValue → WordValue → WordValue × Bool
sum_of a v = cut_to_word a.sign (number_of a +ℤ number_of v)

-- + where the signs agree
abbrev pub product_sign : Sign → Sign → Sign
product_sign Plus Plus = Plus
product_sign Plus Minus = Minus
product_sign Minus Plus = Minus
product_sign Minus Minus = Plus

-- the product of ten bytes: the upper five and the lower five, zeros with the sign too
abbrev pub product_of : WordValue → WordValue → WordValue × WordValue
product_of a v =
    let s = product_sign a.sign v.sign in
    let p = a.magnitude * v.magnitude in
    (word s (p / 64 ^ 5), word s (p % 64 ^ 5))

-- ten bytes, of the first word and then of the second, as one number
abbrev pub ten_bytes_of : WordValue → WordValue → ℕ
ten_bytes_of a x = a.magnitude * 64 ^ 5 + x.magnitude

-- the quotient and the remainder of ten bytes; none where the quotient would not fit a word
abbrev pub quotient_of : WordValue → WordValue → WordValue → Option (WordValue × WordValue)
quotient_of a x v =
    if v.magnitude == 0 || nat_le v.magnitude a.magnitude then None
    else Some (
      word (product_sign a.sign v.sign) (ten_bytes_of a x / v.magnitude),
      word a.sign (ten_bytes_of a x % v.magnitude),
    )
