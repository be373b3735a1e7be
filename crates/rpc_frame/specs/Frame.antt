-- A frame of a body, and the first frame of a text.
use Rattle.std.specs.Prelude.{ℕ, ◌+◌, ◌-◌, ◌==◌, nat_lt, Bool, Option, None, Some, List, [], ◌∷◌, ◌++◌, codes, decimal, length, take, drop, slice_index, if◌then◌else◌}
use Rattle.std.specs.List.{before_first, after_first}
use Rattle.std.specs.Option.{option_or}
use Rattle.std.specs.Str.{str_eq_ignore_ascii_case}
use Rattle.mix_lines.specs.Lines.{is_line_feed, text_of_line, whole_lines, words}
use Rattle.mix_lines.specs.Number.{decimal_number}

-- the frame of a body: the length of the body in bytes, in decimal digits, a blank line, and the body
unfoldable pub frame_of : List ℕ → List ℕ
frame_of body = codes "Content-Length: " ++ decimal (length body) ++ 13 ∷ 10 ∷ 13 ∷ 10 ∷ [] ++ body

-- the most bytes that a header may have
abbrev pub max_header : ℕ
max_header = 4096

-- the most bytes that a body may have
abbrev pub max_body : ℕ
max_body = 134217728

abbrev pub is_colon : ℕ → Bool
is_colon byte = byte == 58

-- the number that the first word is
abbrev pub first_number : List (List ℕ) → Option ℕ
first_number [] = None
first_number (word ∷ rest) = decimal_number word

-- whether a name is Content-Length, in capitals or small letters
abbrev pub names_length : List ℕ → Bool
names_length name = str_eq_ignore_ascii_case name (codes "content-length")

-- the length that a line of a header gives, after the colon that ends its name
abbrev pub length_in : List ℕ → Option ℕ
length_in line = if names_length (before_first is_colon line) then first_number (words (after_first is_colon line)) else None

-- whether a line ends with a line feed
abbrev pub is_ended : List ℕ → Bool
is_ended line = is_line_feed (slice_index line (length line - 1))

-- the header that lines begin with, if its blank line is among them: the last length that a line of it gives, or `given`, and how many bytes it
-- has, over `end`
abbrev pub header_in : Option ℕ → ℕ → List (List ℕ) → Option (Option ℕ × ℕ)
header_in given end [] = None
header_in given end (line ∷ rest) =
    if is_ended line
    then (if length (text_of_line line) == 0 then Some (given, end + length line) else header_in (option_or (length_in (text_of_line line)) given) (end + length line) rest)
    else None

-- what a text begins with
pub data First : Type 0 where
  -- a whole frame: its body, and what follows it
  whole : List ℕ → List ℕ → First
  -- a header that gives no length, and what follows it
  without_length : List ℕ → First
  -- a beginning of a frame
  partial : First
  -- a header or a body that is longer than it may be
  too_long : First

-- the body of a length that a text begins with
abbrev pub body_in : Option ℕ → List ℕ → First
body_in None text = without_length text
body_in (Some n) text = if nat_lt max_body n then too_long else (if nat_lt (length text) n then partial else whole (take n text) (drop n text))

abbrev pub after_header : Option (Option ℕ × ℕ) → List ℕ → First
after_header (Some header) text = body_in header.0 (drop header.1 text)
after_header None text = if nat_lt (length text) max_header then partial else too_long

-- the first frame of a text
unfoldable pub first_frame : List ℕ → First
first_frame text = after_header (header_in None 0 (whole_lines (take max_header text))) text
