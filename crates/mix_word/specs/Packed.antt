-- How a word lies in one number of 31 bits: the magnitude, and above it a bit that is 1 for the sign -.
use Rattle.std.specs.Prelude.{ℕ, ◌+◌, ◌%◌, ◌^◌, nat_lt, if◌then◌else◌}
use Rattle.mix_word.specs.declared.word.Sign.{Sign}
use Rattle.mix_word.specs.declared.word.Sign.TheVariants.{Plus, Minus}
use Rattle.mix_word.specs.Word.{WordValue, word}

abbrev pub word_of_bits : ℕ → WordValue
word_of_bits bits = word (if nat_lt bits (2 ^ 30) then Plus else Minus) (bits % 2 ^ 30)

abbrev pub sign_bit : Sign → ℕ
sign_bit Plus = 0
sign_bit Minus = 2 ^ 30

abbrev pub bits_of_word : WordValue → ℕ
bits_of_word w = sign_bit w.sign + w.magnitude
