-- The listing of an assembled source: a row for each line, what was inserted before END, and the symbols.
use Rattle.std.specs.Prelude.{ℕ, ◌-◌, Bool, true, false, List, [], ◌∷◌, ◌++◌, length, replicate, slice_get, count_by, Option, Some, None, Result, Ok, Err, codes, decimal}
use Rattle.mix_word.specs.Prelude.{WordValue, location_text, word_text}
use Rattle.mix_refused.specs.declared.refused.Refused.{Refused}
use Rattle.mix_refused.specs.declared.refused.Refused.TheVariants.{Fault, Memory}
use Rattle.mixal_asm.specs.declared.key.Key.{Key}
use Rattle.mixal_asm.specs.declared.key.Key.TheVariants.{Name, Local, Literal}
use Rattle.mixal_asm.specs.declared.row.Shows.{Shows}
use Rattle.mixal_asm.specs.declared.row.Shows.TheVariants.{Nothing, Value, Word, Start}
use Rattle.mixal_asm.specs.PassOne.{NamesSoFar, SourceValue, Line, OfLiteral, OfName, RowValue}
use Rattle.mixal_asm.specs.Program.{ProgramValue}

abbrev pub blanks : ℕ → List ℕ
blanks n = replicate n 32

-- ---- a row: 22 places, two blanks, five places for the number, two blanks, and the text

-- a word at its place
abbrev pub placed_word : Option (ℕ × WordValue) → List ℕ
placed_word None = blanks 22
placed_word (Some word) = location_text word.0 ++ blanks 2 ++ word_text word.1

-- the 22 places
unfoldable pub shown_text : ProgramValue → Shows → List ℕ
shown_text program Nothing = blanks 22
shown_text program (Value value) = blanks 6 ++ word_text value
shown_text program (Word i) = placed_word (slice_get program.words i)
shown_text program Start = location_text program.start ++ blanks 18

-- the number of a line, right in its five places
unfoldable pub number_text : ℕ → List ℕ
number_text n = blanks (5 - length (decimal n)) ++ decimal n

-- the number and the text; a line that was inserted has no number
unfoldable pub source_text : SourceValue → List ℕ
source_text (Line number text) = number_text number ++ blanks 2 ++ text
source_text (OfLiteral text) = blanks 7 ++ 61 ∷ text ++ 61 ∷ []
source_text (OfName symbol) = blanks 7 ++ symbol

unfoldable pub row_text : ProgramValue → RowValue → List ℕ
row_text program row = shown_text program row.shown ++ blanks 2 ++ source_text row.source ++ 10 ∷ []

abbrev pub rows_text : ProgramValue → List RowValue → List ℕ
rows_text program [] = []
rows_text program (row ∷ rows) = row_text program row ++ rows_text program rows

-- ---- the symbols, of which local ones and literals are none

abbrev pub is_symbol : Key → Bool
is_symbol (Name symbol) = true
is_symbol (Local d n) = false
is_symbol (Literal j) = false

abbrev pub symbols_in : NamesSoFar → ℕ
symbols_in names = count_by (λ name. is_symbol name.0) names

-- a symbol, left in its ten places, and its value
unfoldable pub symbol_text : List ℕ → WordValue → List ℕ
symbol_text symbol value = symbol ++ blanks (10 - length symbol) ++ blanks 2 ++ word_text value ++ 10 ∷ []

abbrev pub name_text : Key → WordValue → List ℕ
name_text (Name symbol) value = symbol_text symbol value
name_text (Local d n) value = []
name_text (Literal j) value = []

abbrev pub names_text : NamesSoFar → List ℕ
names_text [] = []
names_text (name ∷ names) = name_text name.0 name.1 ++ names_text names

-- the line that says how many symbols there are
abbrev pub symbols_line : NamesSoFar → List ℕ
symbols_line names = codes "symbols " ++ decimal (symbols_in names) ++ 10 ∷ []

-- the symbols, with which the listing ends
unfoldable pub symbols_text : NamesSoFar → List ℕ
symbols_text names = symbols_line names ++ names_text names

-- the whole listing
unfoldable pub listing : ProgramValue → List ℕ
listing program = rows_text program program.rows ++ symbols_text program.names

-- ---- writing it

-- whether a failed write is answered
abbrev pub IsFault : {A F : Type 0} → Result A (Refused F) → Type 0
IsFault (Ok done) = ⊥
IsFault (Err (Fault fault)) = Unit {0}
IsFault (Err Memory) = ⊥
