-- Numbers written in decimal digits.
use Rattle.std.specs.Prelude.{ℕ, ◌+◌, ◌-◌, ◌*◌, ◌^◌, ◌&&◌, nat_le, nat_lt, Bool, List, [], ◌∷◌, length, Option, None, Some, if◌then◌else◌}
use Rattle.std.specs.List.{list_all}

-- whether a byte is a digit, 0 to 9
abbrev pub is_digit : ℕ → Bool
is_digit byte = nat_le 48 byte && nat_le byte 57

-- whether a text is one digit or more, and nothing else
unfoldable pub is_digits : List ℕ → Bool
is_digits text = nat_lt 0 (length text) && list_all is_digit text

-- the number that digits stand for: each counts as often as the power of ten of its place says
abbrev pub value_of : List ℕ → ℕ
value_of [] = 0
value_of (digit ∷ rest) = (digit - 48) * 10 ^ length rest + value_of rest

-- the number that a text of 1 to so many digits stands for; every other text is no number
abbrev pub number_up_to : ℕ → List ℕ → Option ℕ
number_up_to most text = if is_digits text && nat_le (length text) most then Some (value_of text) else None

-- the number that a text of 1 to 10 digits stands for
unfoldable pub decimal_number : List ℕ → Option ℕ
decimal_number text = number_up_to 10 text
