-- What a line of a deck holds: words, or the characters of a card or of a line of text.
use Rattle.std.specs.Prelude.{ℕ, zero, suc, ◌+◌, ◌-◌, ◌*◌, Bool, not, ◌==◌, ◌&&◌, nat_lt, List, [], ◌∷◌, length, take, drop, slice_index, slice_index_or, Option, None, Some, unwrap_or, if◌then◌else◌}
use Rattle.std.specs.Option.{is_some, option_and_then, option_map}
use Rattle.std.specs.List.{list_all}
use Rattle.mix_lines.specs.Lines.{is_blank}
use Rattle.mix_lines.specs.Number.{is_digit}
use Rattle.mix_word.specs.Prelude.{WordValue, word_of_bytes, character_code}
use Rattle.mix_word.specs.declared.word.Sign.{Sign}
use Rattle.mix_word.specs.declared.word.Sign.TheVariants.{Plus, Minus}

abbrev pub sign_of : ℕ → Option Sign
sign_of byte = if byte == 43 then Some Plus else if byte == 45 then Some Minus else None

-- the byte that two digits stand for, 00 to 63
abbrev pub byte_of_digits : ℕ → ℕ → Option ℕ
byte_of_digits tens ones =
    let byte = (tens - 48) * 10 + (ones - 48) in
    if is_digit tens && is_digit ones && nat_lt byte 64 then Some byte else None

-- a word of a tape or a disk: a sign and five bytes of two digits each
abbrev pub word_of_digits : List ℕ → Option WordValue
word_of_digits text =
    option_and_then (λ sign.
    option_and_then (λ a.
    option_and_then (λ b.
    option_and_then (λ c.
    option_and_then (λ d.
    option_map (λ e. word_of_bytes sign (a ∷ b ∷ c ∷ d ∷ e ∷ []))
    (byte_of_digits (slice_index text 9) (slice_index text 10)))
    (byte_of_digits (slice_index text 7) (slice_index text 8)))
    (byte_of_digits (slice_index text 5) (slice_index text 6)))
    (byte_of_digits (slice_index text 3) (slice_index text 4)))
    (byte_of_digits (slice_index text 1) (slice_index text 2)))
    (sign_of (slice_index text 0))

abbrev pub deck_word : List ℕ → Option WordValue
deck_word text = if length text == 11 then word_of_digits text else None

-- so many good words, or none where one of them is bad
abbrev pub deck_words : List (List ℕ) → Option (List WordValue)
deck_words [] = Some []
deck_words (text ∷ rest) = option_and_then (λ w. option_map (λ ws. w ∷ ws) (deck_words rest)) (deck_word text)

-- the code of a character; a tab is a blank
abbrev pub code_in_deck : ℕ → Option ℕ
code_in_deck byte = if is_blank byte then Some 0 else character_code byte

abbrev pub has_code : ℕ → Bool
has_code byte = is_some (code_in_deck byte)

-- a line is too long where one of its characters past so many columns is no blank
abbrev pub is_too_long : ℕ → List ℕ → Bool
is_too_long columns text = not (list_all is_blank (drop columns text))

abbrev pub has_codes : ℕ → List ℕ → Bool
has_codes columns text = list_all has_code (take columns text)

-- the code in a column, counted from 0; past its end a line is blank
abbrev pub code_at : List ℕ → ℕ → ℕ
code_at text column = unwrap_or (code_in_deck (slice_index_or text column 32)) 0

abbrev pub word_at : List ℕ → ℕ → WordValue
word_at text column =
    word_of_bytes Plus
    (code_at text column ∷ code_at text (column + 1) ∷ code_at text (column + 2) ∷ code_at text (column + 3) ∷ code_at text (column + 4) ∷ [])

-- so many words of five characters each, from a column on
abbrev pub words_from : ℕ → ℕ → List ℕ → List WordValue
words_from zero column text = []
words_from (suc n) column text = word_at text column ∷ words_from n (column + 5) text
