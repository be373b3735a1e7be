-- How bytes are shown where a terminal may read them: a whole character of UTF-8 that can do no harm is itself, and each byte that belongs to none is a
-- question mark. Harm is done by control characters, and by those that turn the direction of a text.
use Rattle.std.specs.Prelude.{ℕ, ◌+◌, ◌-◌, ◌*◌, ◌==◌, ◌&&◌, ◌||◌, not, nat_lt, nat_le, Bool, List, [], ◌∷◌, if◌then◌else◌}
use Rattle.mix_shown.specs.declared.character.Among.{Among}
use Rattle.mix_shown.specs.declared.character.Among.TheVariants as among

abbrev pub between : ℕ → ℕ → ℕ → Bool
between least n most = nat_le least n && nat_le n most

-- of the control characters a tab is shown, and in a text of lines a line feed and a form feed
abbrev pub is_control_shown : Among → ℕ → Bool
is_control_shown among.Line code = code == 9
is_control_shown among.Text code = code == 9 || (code == 10 || code == 12)

abbrev pub is_ascii_shown : Among → ℕ → Bool
is_ascii_shown a code = if nat_lt code 32 then is_control_shown a code else not (code == 127)

-- U+202A to U+202E and U+2066 to U+2069 turn the direction of a text
abbrev pub turns : ℕ → Bool
turns code = between 8234 code 8238 || between 8294 code 8297

-- a byte that goes on with a character of UTF-8
abbrev pub goes_on : ℕ → Bool
goes_on byte = between 128 byte 191

-- the number of a character of two, three and four bytes
abbrev pub two : ℕ → ℕ → ℕ
two a b = (a - 192) * 64 + (b - 128)

abbrev pub three : ℕ → ℕ → ℕ → ℕ
three a b c = ((a - 224) * 64 + (b - 128)) * 64 + (c - 128)

abbrev pub four : ℕ → ℕ → ℕ → ℕ → ℕ
four a b c d = (((a - 240) * 64 + (b - 128)) * 64 + (c - 128)) * 64 + (d - 128)

-- such a character of two bytes that is shown: its number needs two bytes, and is no control character
abbrev pub is_two_shown : ℕ → ℕ → Bool
is_two_shown a b = between 192 a 223 && (goes_on b && nat_le 160 (two a b))

-- .. of three: its number needs three bytes, is none of the surrogates U+D800 to U+DFFF, and turns nothing
abbrev pub is_three_number_shown : ℕ → Bool
is_three_number_shown code = nat_le 2048 code && (not (between 55296 code 57343) && not (turns code))

abbrev pub is_three_shown : ℕ → ℕ → ℕ → Bool
is_three_shown a b c = between 224 a 239 && (goes_on b && (goes_on c && is_three_number_shown (three a b c)))

-- .. of four: its number needs four bytes, and is at most U+10FFFF
abbrev pub is_four_shown : ℕ → ℕ → ℕ → ℕ → Bool
is_four_shown a b c d =
    between 240 a 247 && (goes_on b && (goes_on c && (goes_on d && between 65536 (four a b c d) 1114111)))

-- how many bytes the character has with which some bytes begin, if it is whole and shown; otherwise 0
abbrev pub at_four : List ℕ → ℕ
at_four (a ∷ b ∷ c ∷ d ∷ rest) = if is_four_shown a b c d then 4 else 0
at_four others = 0

abbrev pub at_three : List ℕ → ℕ
at_three (a ∷ b ∷ c ∷ rest) = if is_three_shown a b c then 3 else at_four (a ∷ b ∷ c ∷ rest)
at_three others = 0

abbrev pub at_two : List ℕ → ℕ
at_two (a ∷ b ∷ rest) = if is_two_shown a b then 2 else at_three (a ∷ b ∷ rest)
at_two others = 0

abbrev pub shown_length : Among → List ℕ → ℕ
shown_length among [] = 0
shown_length among (a ∷ rest) = if nat_lt a 128 then (if is_ascii_shown among a then 1 else 0) else at_two (a ∷ rest)

-- how many bytes from the first on belong to one character that is shown, where so many were left of the one before them
abbrev pub left_at : Among → ℕ → List ℕ → ℕ
left_at among left [] = 0
left_at among left (a ∷ rest) = if nat_lt 0 left && goes_on a then left else shown_length among (a ∷ rest)

-- bytes as they are shown
abbrev pub shown_from : Among → ℕ → List ℕ → List ℕ
shown_from among left [] = []
shown_from among left (a ∷ rest) =
    (if nat_lt 0 (left_at among left (a ∷ rest)) then a else 63) ∷ shown_from among (left_at among left (a ∷ rest) - 1) rest

-- how many bytes are left of a character after so many bytes of a text
abbrev pub left_past : ℕ → ℕ → List ℕ → ℕ
left_past left n [] = left
left_past left n (a ∷ rest) = if n == 0 then left else left_past (left_at among.Text left (a ∷ rest) - 1) (n - 1) rest

-- how many bytes of a text are shown as they are, from the first on
abbrev pub plain_front : ℕ → List ℕ → ℕ
plain_front left [] = 0
plain_front left (a ∷ rest) =
    if nat_lt 0 (left_at among.Text left (a ∷ rest)) then plain_front (left_at among.Text left (a ∷ rest) - 1) rest + 1 else 0

-- a line
unfoldable pub shown : List ℕ → List ℕ
shown line = shown_from among.Line 0 line
