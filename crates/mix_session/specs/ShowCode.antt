-- What `show code` writes: a cell with its word, the instruction that the word is, and the line of the source that it comes from.
use Rattle.std.specs.Prelude.{ℕ, ◌+◌, not, Bool, true, false, List, [], ◌∷◌, ◌++◌, codes, Option, Some, None}
use Rattle.std.specs.Fmt.{decimal}
use Rattle.mix_word.specs.Prelude.{WordValue, is_same_word, location_text, word_text, instruction_text}
use Rattle.mix_machine.specs.World.{WorldState, cell_of}
use Rattle.mixal_asm.specs.Prelude.{SourceValue, Line, OfLiteral, OfName, ProgramValue}
use Rattle.mixal_asm.specs.Source.{source_at, word_at}
use Rattle.mix_session.specs.Columns.{blanks, left_in, right_in}
use Rattle.mix_session.specs.Each.{texts}

-- whether a word is there that is another than this one
abbrev pub is_other : Option WordValue → WordValue → Bool
is_other None word = false
is_other (Some put) word = not (is_same_word put word)

-- whether a cell holds another word than the last one that the source put there
abbrev pub is_overwritten : ProgramValue → WorldState → ℕ → Bool
is_overwritten program w p = is_other (word_at program p) (cell_of w p)

abbrev pub mark_text : Bool → List ℕ
mark_text true = codes "*"
mark_text false = codes " "

-- the number of a line, which no inserted line has, in five places
abbrev pub line_number : SourceValue → List ℕ
line_number (Line number text) = right_in 5 (decimal number)
line_number (OfLiteral text) = blanks 5
line_number (OfName symbol) = blanks 5

-- the bytes of a line; those of a literal and of an undefined symbol as the listing has them
abbrev pub line_bytes : SourceValue → List ℕ
line_bytes (Line number text) = text
line_bytes (OfLiteral text) = 61 ∷ text ++ 61 ∷ []
line_bytes (OfName symbol) = symbol

-- a line of the source: its number, a mark where its cell is overwritten, a blank, and its bytes
unfoldable pub line_text : Bool → SourceValue → List ℕ
line_text overwritten source = line_number source ++ mark_text overwritten ++ codes " " ++ line_bytes source

-- the instruction of a cell, and the line that it comes from, if it comes from one
abbrev pub code_text : ProgramValue → WorldState → ℕ → Option SourceValue → List ℕ
code_text program w p None = instruction_text (cell_of w p)
code_text program w p (Some source) =
    left_in 17 (instruction_text (cell_of w p)) ++ codes "  " ++ line_text (is_overwritten program w p) source

-- a cell: its location, its word, its instruction, its line
unfoldable pub code_line : ProgramValue → WorldState → ℕ → List ℕ
code_line program w p =
    location_text p ++ codes "  " ++ word_text (cell_of w p) ++ codes "  " ++ code_text program w p (source_at program p) ++ 10 ∷ []

-- the reply of `show code`
abbrev pub codes_text : ProgramValue → WorldState → ℕ → ℕ → List ℕ
codes_text program w first last = texts (code_line program w) first (last + 1)
