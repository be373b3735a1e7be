-- The parts of a text: its blanks, its words, what is in square brackets.
use Rattle.std.specs.Prelude.{ℕ, ◌==◌, ◌&&◌, not, Bool, List, [], ◌∷◌, drop, Option, Some, None, if◌then◌else◌}
use Rattle.std.specs.List.{after_first, before_first, list_any, position_or_len}
use Rattle.std.specs.Char.{is_ascii_alphabetic, is_ascii_alphanumeric}
use Rattle.mix_lines.specs.Lines.{begins_with, is_blank, is_comment}

-- whether a byte is none of a word: neither a letter nor a digit
abbrev pub is_other : ℕ → Bool
is_other byte = not (is_ascii_alphanumeric byte)

-- the word that begins a text, which may be empty, and what follows it
unfoldable pub word_in : List ℕ → List ℕ
word_in text = before_first is_other text

unfoldable pub after_word : List ℕ → List ℕ
after_word text = drop (position_or_len is_other text) text

-- whether a word is a name: its first byte is a letter
unfoldable pub is_name : List ℕ → Bool
is_name word = begins_with is_ascii_alphabetic word

-- a text without the blanks that it begins with
abbrev pub unblanked : List ℕ → List ℕ
unblanked [] = []
unblanked (byte ∷ rest) = if is_blank byte then unblanked rest else byte ∷ rest

-- a square bracket that opens, and one that closes
abbrev pub is_opening : ℕ → Bool
is_opening byte = byte == 91

abbrev pub is_closing : ℕ → Bool
is_closing byte = byte == 93

-- what follows the first square bracket that opens
abbrev pub after_opening : List ℕ → List ℕ
after_opening line = after_first is_opening line

-- what is between the first square bracket of a line that opens and the next one that closes; a comment has none
unfoldable pub bracket_of : List ℕ → Option (List ℕ)
bracket_of line =
    if not (is_comment line) && list_any is_closing (after_opening line) then Some (before_first is_closing (after_opening line)) else None
