-- How a text is cut into pieces, and a line at its blanks (1.3.2).
use Rattle.std.specs.Prelude.{ℕ, ◌+◌, Bool, not, List, [], length, drop, Option, Some, None}
use Rattle.std.specs.List.{before_first, after_first, position_or_len, slice_split}
use Rattle.mix_lines.specs.Lines.{is_blank}

-- ---- pieces between bytes that pass a test

-- the pieces of what follows such a byte, if there was one
abbrev pub pieces_of : (ℕ → Bool) → Option (List ℕ) → List (List ℕ)
pieces_of test None = []
pieces_of test (Some text) = slice_split test text

-- how many bytes that has with the byte before it
abbrev pub length_with_one : Option (List ℕ) → ℕ
length_with_one None = 0
length_with_one (Some text) = 1 + length text

-- ---- words

abbrev pub is_nonblank : ℕ → Bool
is_nonblank byte = not (is_blank byte)

-- a text from its first nonblank byte on
unfoldable pub after_blanks : List ℕ → List ℕ
after_blanks text = drop (position_or_len is_nonblank text) text

-- its first word, which is empty where there is none
abbrev pub first_word : List ℕ → List ℕ
first_word text = before_first is_blank (after_blanks text)

-- what stands after that word and the blank that ends it
abbrev pub after_word : List ℕ → List ℕ
after_word text = after_first is_blank (after_blanks text)
