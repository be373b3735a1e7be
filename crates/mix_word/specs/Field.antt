-- A field (L:R) of a word (1.3.1): bytes L to R, where position 0 is the sign.
use Rattle.std.specs.Prelude.{ℕ, ◌+◌, ◌-◌, ◌*◌, ◌/◌, ◌%◌, ◌^◌, ◌==◌, nat_le, ◌&&◌, max, Option, Some, None, if◌then◌else◌}
use Rattle.mix_word.specs.declared.word.Sign.TheVariants.{Plus}
use Rattle.mix_word.specs.Word.{WordValue, word}

pub record FieldValue : Type 0 where
  pub left : ℕ
  pub right : ℕ

abbrev pub field : ℕ → ℕ → FieldValue
field l r = record { left = l; right = r }

-- the field from L to R, where there is one
abbrev pub field_between : ℕ → ℕ → Option FieldValue
field_between l r = if nat_le l r && nat_le r 5 then Some (field l r) else None

-- the code of a field
abbrev pub code_of_field : FieldValue → ℕ
code_of_field f = 8 * f.left + f.right

-- the field of a code, which is 8L + R
abbrev pub field_of : ℕ → Option FieldValue
field_of code = field_between (code / 8) (code % 8)

-- how many bytes it has: the sign is none
abbrev pub width_of : FieldValue → ℕ
width_of f = f.right + 1 - max f.left 1

-- the field's bytes as a number
abbrev pub bytes_in : ℕ → FieldValue → ℕ
bytes_in m f = m / 64 ^ (5 - f.right) % 64 ^ width_of f

-- the field's bytes moved to the right end of a word, with its sign if the field has it, or else +
abbrev pub field_value_of : WordValue → FieldValue → WordValue
field_value_of w f = word (if f.left == 0 then w.sign else Plus) (bytes_in w.magnitude f)

-- the word whose field is replaced by the rightmost bytes of v, and by its sign if the field has one
abbrev pub put_field_of : WordValue → FieldValue → WordValue → WordValue
put_field_of w f v =
    let place = 64 ^ (5 - f.right) in
    word (if f.left == 0 then v.sign else w.sign)
    (w.magnitude - bytes_in w.magnitude f * place + v.magnitude % 64 ^ width_of f * place)
