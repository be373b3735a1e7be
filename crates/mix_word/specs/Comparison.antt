-- The comparison of a field of two words (1.3.1).
use Rattle.std.specs.Prelude.{ℤ, int_lt, if◌then◌else◌}
use Rattle.mix_word.specs.declared.word.Cmp.{Cmp}
use Rattle.mix_word.specs.declared.word.Cmp.TheVariants.{Less, Equal, Greater}
use Rattle.mix_word.specs.Word.{WordValue, number_of}
use Rattle.mix_word.specs.Field.{FieldValue, field_value_of}

abbrev pub order_of : ℤ → ℤ → Cmp
order_of p q = if int_lt p q then Less else (if int_lt q p then Greater else Equal)

-- the order of the numbers in the fields, where -0 is +0
abbrev pub comparison_of : WordValue → WordValue → FieldValue → Cmp
comparison_of a v f = order_of (number_of (field_value_of a f)) (number_of (field_value_of v f))
