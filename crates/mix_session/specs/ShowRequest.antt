-- What `show` is to show: its keywords, and the words that each takes after it.
use Rattle.std.specs.Prelude.{ℕ, List, [], ◌∷◌, codes, Result, Ok, Err, nat_lt, if◌then◌else◌}
use Rattle.mix_word.specs.Word.{WordValue}
use Rattle.mixal_text.specs.Prelude.{NamesValue, ◌>>=◌}
use Rattle.mix_session.specs.Operand.{no_word, one_word, two_words, first_keyword, number_in, word_in, expression_in, from_one, place_of, one_unit}
use Rattle.mix_session.specs.Setting.{condition_in}
use Rattle.mix_session.specs.declared.fault.Refusal.{Refusal}
use Rattle.mix_session.specs.declared.fault.Refusal.TheVariants.{OutOfRange}
use Rattle.mix_session.specs.declared.request.topics.ShowWord.{ShowWord}
use Rattle.mix_session.specs.declared.request.topics.ShowWord.TheVariants as show
use Rattle.mix_session.specs.declared.request.topics.Topic.{Topic}
use Rattle.mix_session.specs.declared.request.topics.Topic.TheVariants as topic

-- the name of each keyword
abbrev pub show_name : ShowWord → List ℕ
show_name show.Registers = codes "regs"
show_name show.Cells = codes "cells"
show_name show.Clock = codes "clock"
show_name show.Breaks = codes "breaks"
show_name show.Changes = codes "changes"
show_name show.Unit = codes "unit"
show_name show.All = codes "all"
show_name show.Code = codes "code"
show_name show.Value = codes "value"
show_name show.Values = codes "values"
show_name show.Symbols = codes "symbols"
show_name show.Last = codes "last"
show_name show.Writes = codes "writes"
show_name show.Diff = codes "diff"
show_name show.Counts = codes "counts"
show_name show.Conflicts = codes "conflicts"

abbrev pub all_shows : List ShowWord
all_shows =
    show.Registers ∷ show.Cells ∷ show.Clock ∷ show.Breaks ∷ show.Changes ∷ show.Unit ∷ show.All ∷ show.Code ∷ show.Value ∷ show.Values ∷ show.Symbols ∷ show.Last ∷ show.Writes ∷ show.Diff ∷ show.Counts ∷ show.Conflicts ∷ []

-- a topic after which there is no word
abbrev pub alone : Topic → List (List ℕ) → Result Topic Refusal
alone topic words = do
  none ← no_word words
  Ok topic

-- the cells from one to another, which is not below it
abbrev pub range_of : NamesValue → WordValue → List (List ℕ) → Result (ℕ × ℕ) Refusal
range_of names here words = do
  pair ← two_words words
  first ← expression_in names here pair.0
  last ← expression_in names here pair.1
  from ← place_of first
  to ← place_of last
  if nat_lt to from then Err OutOfRange else Ok (from, to)

-- `show cells E E`
abbrev pub cells_of : NamesValue → WordValue → List (List ℕ) → Result Topic Refusal
cells_of names here words = do
  range ← range_of names here words
  Ok (topic.Cells range.0 range.1)

-- `show code`, which is that of the cell at the location, `show code E E`
abbrev pub code_of : NamesValue → WordValue → List (List ℕ) → Result Topic Refusal
code_of names here [] = do
  place ← place_of here
  Ok (topic.Code place place)
code_of names here (word ∷ more) = do
  range ← range_of names here (word ∷ more)
  Ok (topic.Code range.0 range.1)

-- `show values`, `show values E E`
abbrev pub values_of : NamesValue → WordValue → List (List ℕ) → Result Topic Refusal
values_of names here [] = Ok topic.Values
values_of names here (word ∷ more) = do
  range ← range_of names here (word ∷ more)
  Ok (topic.CellValues range.0 range.1)

-- `show value W`
abbrev pub value_of : NamesValue → WordValue → List (List ℕ) → Result Topic Refusal
value_of names here words = do
  word ← one_word words
  value ← word_in names here word
  Ok (topic.Value value)

-- `show unit N`
abbrev pub unit_topic : List (List ℕ) → Result Topic Refusal
unit_topic words = do
  unit ← one_unit words
  Ok (topic.Unit unit)

-- `show last N`
abbrev pub last_topic : List (List ℕ) → Result Topic Refusal
last_topic words = do
  word ← one_word words
  n ← number_in word
  count ← from_one n
  Ok (topic.Last count)

-- `show writes COND`
abbrev pub writes_topic : NamesValue → WordValue → List (List ℕ) → Result Topic Refusal
writes_topic names here words = do
  condition ← condition_in names here words
  Ok (topic.Writes condition)

-- `show diff N`
abbrev pub diff_topic : List (List ℕ) → Result Topic Refusal
diff_topic words = do
  word ← one_word words
  n ← number_in word
  Ok (topic.Diff n)

-- what `show` shows
abbrev pub topic_of : NamesValue → WordValue → ShowWord → List (List ℕ) → Result Topic Refusal
topic_of names here show.Registers words = alone topic.Registers words
topic_of names here show.Cells words = cells_of names here words
topic_of names here show.Clock words = alone topic.Clock words
topic_of names here show.Breaks words = alone topic.Breaks words
topic_of names here show.Changes words = alone topic.Changes words
topic_of names here show.Unit words = unit_topic words
topic_of names here show.All words = alone topic.All words
topic_of names here show.Code words = code_of names here words
topic_of names here show.Value words = value_of names here words
topic_of names here show.Values words = values_of names here words
topic_of names here show.Symbols words = alone topic.Symbols words
topic_of names here show.Last words = last_topic words
topic_of names here show.Writes words = writes_topic names here words
topic_of names here show.Diff words = diff_topic words
topic_of names here show.Counts words = alone topic.Counts words
topic_of names here show.Conflicts words = alone topic.Conflicts words

-- `show regs`, `show cells E E`, `show clock`, and so on: a keyword and what it takes
unfoldable pub topic_in : NamesValue → WordValue → List (List ℕ) → Result Topic Refusal
topic_in names here words = do
  first ← first_keyword show_name all_shows words
  topic_of names here first.0 first.1
