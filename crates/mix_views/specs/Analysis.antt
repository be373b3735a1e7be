-- What `show analysis` says: the counts of the book, which stand in brackets in the lines of the source, beside those that are measured.
use Rattle.std.specs.Prelude.{ℕ, zero, suc, ◌&&◌, Bool, List, [], ◌∷◌, ◌++◌, is_some, Option, None, Some, option_and_then, if◌then◌else◌}
use Rattle.std.specs.Option.{option_map}
use Rattle.mix_formula.specs.Prelude.{given_of, NameValue, RowValue, bracket_of}
use Rattle.mixal_asm.specs.Prelude.{SourceValue, Line, OfLiteral, OfName, ProgramValue, source_at, is_instruction}
use Rattle.mix_session.specs.Prelude.{tally_at, SessionState}
use Rattle.mix_session.specs.declared.tally.Tally.{Tally}

-- the values that words give, if each gives one
abbrev pub given_first : NameValue → Option (List NameValue) → Option (List NameValue)
given_first first more = option_map (λ rest. first ∷ rest) more

abbrev pub given_in : List (List ℕ) → Option (List NameValue)
given_in [] = Some []
given_in (word ∷ rest) = option_and_then (λ first. given_first first (given_in rest)) (given_of word)

-- behind others
abbrev pub given_onto : List NameValue → Option (List NameValue) → Option (List NameValue)
given_onto before more = option_map (λ rest. before ++ rest) more

-- the row of a line of the source
abbrev pub row_if : Bool → ℕ → List ℕ → Tally → List RowValue
row_if has line text tally = if has then record { line = line; text = text; count = tally.count; time = tally.time } ∷ [] else []

-- a line has one if it is an instruction's and has a formula in brackets
abbrev pub row_of : Tally → SourceValue → List RowValue
row_of tally (Line number text) = row_if (is_instruction (Line number text) && is_some (bracket_of text)) number text tally
row_of tally (OfLiteral text) = []
row_of tally (OfName name) = []

abbrev pub row_at : Tally → Option SourceValue → List RowValue
row_at tally None = []
row_at tally (Some source) = row_of tally source

-- those of the first n cells
unfoldable pub rows_below : ProgramValue → (ℕ → Tally) → ℕ → List RowValue
rows_below program tally zero = []
rows_below program tally (suc n) = rows_below program tally n ++ row_at (tally n) (source_at program n)

-- those of all cells, by the changes done
unfoldable pub rows_in : SessionState → List RowValue
rows_in s = rows_below s.program (tally_at s.timeline) 4000
