-- The passages of a line: the last states in which the machine is at it, with the chosen words and whether the assertion is true.
use Rattle.std.specs.Prelude.{ℕ, ◌+◌, ◌-◌, Bool, List, length, map, reverse, take, Option}
use Rattle.std.specs.Option.{option_map}
use Rattle.mix_word.specs.Word.{WordValue}
use Rattle.mix_machine.specs.World.{WorldState}
use Rattle.mix_session.specs.Change.{world_at}
use Rattle.mix_session.specs.Passages.{passages_back}
use Rattle.mix_session.specs.Timeline.{Timeline}
use Rattle.mix_passages.specs.Assertion.{holds}
use Rattle.mix_passages.specs.Passages.{ColumnValue, PassagesValue, word_of}

-- a state: how many changes led to it, the word of each column, and the truth of the assertion
pub record RowValue : Type 0 where
  pub number : ℕ
  pub words : List WordValue
  pub holds : Option Bool

-- the rows, and how many states come before them
pub record TableValue : Type 0 where
  pub rows : List RowValue
  pub before : ℕ

abbrev pub words_of : WorldState → List ColumnValue → List WordValue
words_of w columns = map (λ column. word_of w column.item) columns

abbrev pub row_of : WorldState → PassagesValue → ℕ → RowValue
row_of w asked n = record { number = n; words = words_of w asked.columns; holds = option_map (λ assertion. holds w assertion) asked.assertion }

-- the row of the state after the first n changes
abbrev pub row_at : Timeline → PassagesValue → ℕ → RowValue
row_at t asked n = row_of (world_at t n) asked n

-- how many rows there are at most
abbrev pub most_rows : ℕ
most_rows = 200

-- those of some states, the last of which is named first
abbrev pub table_by : (ℕ → RowValue) → List ℕ → TableValue
table_by row states = record { rows = map row (reverse (take most_rows states)); before = length states - most_rows }

-- exactly the states in which the machine is at the location
abbrev pub table_of : Timeline → PassagesValue → TableValue
table_of t asked = table_by (row_at t asked) (passages_back t asked.place (length t.changes + 1))
