-- The words after a keyword of a command: words that have to be there, numbers, cells, units, W-values.
use Rattle.std.specs.Prelude.{◌==◌, ◌-◌, ℕ, ℤ, pos, negsuc, List, [], ◌∷◌, Result, Ok, Err, nat_lt, ok_or, if◌then◌else◌}
use Rattle.mix_lines.specs.Number.{decimal_number}
use Rattle.mix_word.specs.Prelude.{WordValue, number_of, unit_count}
use Rattle.mixal_text.specs.Prelude.{NamesValue, whole_expression, w_value_of, ◌>>=◌}
use Rattle.mixal_text.specs.declared.misread.Misread.{Misread}
use Rattle.mix_session.specs.Keyword.{keyword_named}
use Rattle.mix_session.specs.declared.fault.Refusal.{Refusal}
use Rattle.mix_session.specs.declared.fault.Refusal.TheVariants.{BadArgument, OutOfRange}

-- no word more
abbrev pub no_word : List (List ℕ) → Result (Unit {0}) Refusal
no_word [] = Ok tt
no_word (word ∷ more) = Err BadArgument

-- exactly one word
abbrev pub one_word : List (List ℕ) → Result (List ℕ) Refusal
one_word [] = Err BadArgument
one_word (word ∷ more) = do
  none ← no_word more
  Ok word

-- exactly two words
abbrev pub two_words : List (List ℕ) → Result (List ℕ × List ℕ) Refusal
two_words [] = Err BadArgument
two_words (word ∷ more) = do
  second ← one_word more
  Ok (word, second)

-- one of the keywords of a place
abbrev pub keyword_in : {K : Type 0} → (K → List ℕ) → List K → List ℕ → Result K Refusal
keyword_in name_of all word = ok_or (keyword_named name_of all word) BadArgument

-- the keyword that the first word names, and the words after it
abbrev pub first_keyword : {K : Type 0} → (K → List ℕ) → List K → List (List ℕ) → Result (K × List (List ℕ)) Refusal
first_keyword name_of all [] = Err BadArgument
first_keyword name_of all (word ∷ more) = do
  keyword ← keyword_in name_of all word
  Ok (keyword, more)

-- a number
abbrev pub number_in : List ℕ → Result ℕ Refusal
number_in word = ok_or (decimal_number word) BadArgument

-- what an expression or a W-value gives; any of its faults is a bad argument
abbrev pub or_bad : {A : Type 0} → Result A Misread → Result A Refusal
or_bad (Ok x) = Ok x
or_bad (Err fault) = Err BadArgument

-- a word, by a W-value with the names of the program, in which the asterisk stands for the location
abbrev pub word_in : NamesValue → WordValue → List ℕ → Result WordValue Refusal
word_in names here text = or_bad (w_value_of names here text)

-- a number, by an expression and nothing else
abbrev pub expression_in : NamesValue → WordValue → List ℕ → Result WordValue Refusal
expression_in names here text = or_bad (whole_expression names here text)

-- a number that is at least 1
abbrev pub from_one : ℕ → Result ℕ Refusal
from_one n = if n == 0 then Err OutOfRange else Ok n

-- a number that is not over a limit
abbrev pub up_to : ℕ → ℕ → Result ℕ Refusal
up_to limit n = if nat_lt limit n then Err OutOfRange else Ok n

-- the cell of a number, 0 to 3999
abbrev pub place_of_number : ℤ → Result ℕ Refusal
place_of_number (pos n) = up_to 3999 n
place_of_number (negsuc n) = Err OutOfRange

-- the cell that a word names by its number
abbrev pub place_of : WordValue → Result ℕ Refusal
place_of w = place_of_number (number_of w)

-- the cell that a word names, by an expression
abbrev pub place_named : NamesValue → WordValue → List ℕ → Result ℕ Refusal
place_named names here word = do
  at ← expression_in names here word
  place_of at

-- the cell that the only word names
abbrev pub one_place : NamesValue → WordValue → List (List ℕ) → Result ℕ Refusal
one_place names here words = do
  word ← one_word words
  place_named names here word

-- the number of the last unit
abbrev pub last_unit : ℕ
last_unit = unit_count - 1

-- the unit that the only word names
abbrev pub one_unit : List (List ℕ) → Result ℕ Refusal
one_unit words = do
  word ← one_word words
  n ← number_in word
  up_to last_unit n
