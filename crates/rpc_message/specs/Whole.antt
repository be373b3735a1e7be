-- Whole numbers, however JSON writes them: one that is read as a float is whole if it is no more and no less than its part before the point.
use Rattle.std.specs.Prelude.{ℕ, ℤ, Bool, ◌&&◌, Option, None, Some, option_and_then, Float, if◌then◌else◌}
use Rattle.std.specs.Int.{w64}
use Rattle.std.specs.Float.{binary64, trunc, two_to, minus_two_to, float_zero, float_to_unsigned, float_to_signed}
use Rattle.std.specs.Float.Ieee.{eq, le, lt}
use Rattle.serde_json.specs.Data.{Data, Num}
use Rattle.serde_json.specs.Find.{as_i64, as_number, as_u64, is_float, to_float}

-- ---- from 0 to below 2 ^ 64

abbrev pub is_natural : Float → Bool
is_natural x = (eq (trunc binary64 x) x && le float_zero x) && lt x (two_to 64)

abbrev pub natural_of_float : Float → Option ℕ
natural_of_float x = if is_natural x then Some (float_to_unsigned w64 x) else None

abbrev pub natural_of : Num → Option ℕ
natural_of n = if is_float n then natural_of_float (to_float n) else as_u64 n

abbrev pub natural_in : Data → Option ℕ
natural_in d = option_and_then natural_of (as_number d)

-- ---- from -2 ^ 63 to below 2 ^ 63; a float of -2 ^ 63 may stand for a number below it, which JSON rounds

abbrev pub is_integer : Float → Bool
is_integer x = (eq (trunc binary64 x) x && lt (minus_two_to 63) x) && lt x (two_to 63)

abbrev pub integer_of_float : Float → Option ℤ
integer_of_float x = if is_integer x then Some (float_to_signed w64 x) else None

abbrev pub integer_of : Num → Option ℤ
integer_of n = if is_float n then integer_of_float (to_float n) else as_i64 n

abbrev pub integer_in : Data → Option ℤ
integer_in d = option_and_then integer_of (as_number d)
