-- Shifts by a number of bytes (1.3.1): of one word, or of the ten bytes of two. Signs stay.
use Rattle.std.specs.Prelude.{ℕ, ◌+◌, ◌-◌, ◌*◌, ◌/◌, ◌%◌, ◌^◌}
use Rattle.mix_word.specs.declared.operation.ShiftKind.{ShiftKind}
use Rattle.mix_word.specs.declared.operation.ShiftKind.TheVariants.{Sla, Sra, Slax, Srax, Slc, Src}
use Rattle.mix_word.specs.Word.{WordValue, word}
use Rattle.mix_word.specs.Arithmetic.{ten_bytes_of}

-- ten bytes as two words with the signs that these have
abbrev pub split_into : WordValue → WordValue → ℕ → WordValue × WordValue
split_into a x n = (word a.sign (n / 64 ^ 5), word x.sign (n % 64 ^ 5))

-- ten bytes moved circularly, to the left by k of them
abbrev pub rotation_of : ℕ → ℕ → ℕ
rotation_of n k = n * 64 ^ k % 64 ^ 10 + n / 64 ^ (10 - k)

abbrev pub shift_of : ShiftKind → WordValue → WordValue → ℕ → WordValue × WordValue
shift_of Sla a x m = (word a.sign (a.magnitude * 64 ^ m % 64 ^ 5), x)
shift_of Sra a x m = (word a.sign (a.magnitude / 64 ^ m), x)
shift_of Slax a x m = split_into a x (ten_bytes_of a x * 64 ^ m % 64 ^ 10)
shift_of Srax a x m = split_into a x (ten_bytes_of a x / 64 ^ m)
shift_of Slc a x m = split_into a x (rotation_of (ten_bytes_of a x) (m % 10))
shift_of Src a x m = split_into a x (rotation_of (ten_bytes_of a x) ((10 - m % 10) % 10))
