-- The lines of a text and the words of a line, as lists of bytes.
use Rattle.std.specs.Prelude.{◌≡◌, ℕ, ◌-◌, ◌==◌, ◌||◌, nat_lt, Bool, false, List, [], ◌∷◌, length, map, filter, take, slice_index, if◌then◌else◌, refl}
use Rattle.std.specs.Str.Lines.{strip_carriage_return}
use Rattle.std.specs.List.{onto_first, slice_split}

-- whether a byte ends a line: a line feed
abbrev pub is_line_feed : ℕ → Bool
is_line_feed byte = byte == 10

-- whether a byte parts words: a space or a tab, and nothing else
abbrev pub is_blank : ℕ → Bool
is_blank byte = byte == 32 || byte == 9

-- a text cut after each of its line feeds; what follows the last one is a line if it is not empty
abbrev pub whole_lines : List ℕ → List (List ℕ)
whole_lines [] = []
whole_lines (byte ∷ rest) = if is_line_feed byte then (byte ∷ []) ∷ whole_lines rest else onto_first byte (whole_lines rest)

-- a line without the line feed at its end, if it has one
abbrev pub strip_line_feed : List ℕ → List ℕ
strip_line_feed line = if is_line_feed (slice_index line (length line - 1)) then take (length line - 1) line else line

-- what stands in a line: its bytes without the line feed, and then without the one carriage return that may be last
abbrev pub text_of_line : List ℕ → List ℕ
text_of_line line = strip_carriage_return (strip_line_feed line)

-- the lines of a text, each without its line end
unfoldable pub lines : List ℕ → List (List ℕ)
lines text = map text_of_line (whole_lines text)

-- the words of a line: what stands between its blanks and is not empty
unfoldable pub words : List ℕ → List (List ℕ)
words line = filter (λ part. nat_lt 0 (length part)) (slice_split is_blank line)

-- whether the first byte passes a test
abbrev pub begins_with : (ℕ → Bool) → List ℕ → Bool
begins_with test [] = false
begins_with test (byte ∷ rest) = test byte

-- whether a line is a comment: its first byte is an asterisk
abbrev pub is_comment : List ℕ → Bool
is_comment line = begins_with (λ byte. byte == 42) line

pub lines-nil : lines [] ≡ []
unfolding lines
lines-nil = refl

pub words-nil : words [] ≡ []
unfolding words
words-nil = refl
