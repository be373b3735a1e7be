-- The header of a unit in a deck: `%UNIT 19` or `%UNIT 19 delay 10`.
use Rattle.std.specs.Prelude.{ℕ, Bool, ◌==◌, nat_le, nat_lt, List, [], ◌∷◌, length, Option, None, Some, codes, if◌then◌else◌}
use Rattle.std.specs.Option.{option_and_then, option_map}
use Rattle.std.specs.Str.{str_eq_ignore_ascii_case}
use Rattle.mix_lines.specs.Lines.{begins_with}
use Rattle.mix_lines.specs.Number.{number_up_to, decimal_number}
use Rattle.mix_word.specs.Uses.{unit_count}
use Rattle.mix_machine.specs.declared.units.deck.header.Header.{Header}

-- a line is a header, good or bad, where its first byte is a percent sign
abbrev pub is_header : List ℕ → Bool
is_header text = begins_with (λ byte. byte == 37) text

abbrev pub unit_of_value : Option ℕ → Option ℕ
unit_of_value None = None
unit_of_value (Some n) = if nat_lt n unit_count then Some n else None

-- the number of a unit, in one or two digits
abbrev pub unit_number : List ℕ → Option ℕ
unit_number text = if nat_le (length text) 2 then unit_of_value (decimal_number text) else None

-- a delay: 1 to 18 digits
abbrev pub delay_of : List ℕ → Option ℕ
delay_of text = number_up_to 18 text

abbrev pub header : ℕ → Option ℕ → Header
header n delay = record { unit = n; delay = delay }

-- the delay has to be the last word
abbrev pub with_delay : ℕ → List (List ℕ) → Option Header
with_delay n [] = None
with_delay n (text ∷ []) = option_map (λ t. header n (Some t)) (delay_of text)
with_delay n (text ∷ more ∷ rest) = None

abbrev pub after_number : ℕ → List (List ℕ) → Option Header
after_number n [] = Some (header n None)
after_number n (word ∷ rest) = if str_eq_ignore_ascii_case word (codes "DELAY") then with_delay n rest else None

abbrev pub after_keyword : List (List ℕ) → Option Header
after_keyword [] = None
after_keyword (text ∷ rest) = option_and_then (λ n. after_number n rest) (unit_number text)

-- the words of a header in turn; none where they are no header
abbrev pub header_of : List (List ℕ) → Option Header
header_of [] = None
header_of (word ∷ rest) = if str_eq_ignore_ascii_case word (codes "%UNIT") then after_keyword rest else None
