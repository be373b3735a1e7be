-- The index of a program, as it agrees with the program's words and rows.
use Rattle.std.specs.Prelude.{◌≡◌, ℕ, ◌<◌, nat_le, nat_lt, Bool, true, List, length, slice_get, slice_index, Option, Some, None, if◌then◌else◌}
use Rattle.std.specs.Option.{option_map}
use Rattle.std.specs.List.{filter_map, last_or}
use Rattle.std.specs.List.Sorted.{IsNonDecreasingBy}
use Rattle.std.specs.Map.{lookup}
use Rattle.std.specs.Str.{bytes_eq}
use Rattle.mix_word.specs.Word.{WordValue}
use Rattle.mixal_asm.specs.declared.index.Index.{Index}
use Rattle.mixal_asm.specs.PassOne.{SourceValue, Line, OfLiteral, OfName, RowValue}
use Rattle.mixal_asm.specs.Source.{place_of, source_in, word_in, place_in, definitions_in}

-- of each place a number: that of the last of the items looked through that is there, by what an item gives at a place, and past
-- all items where none is
abbrev pub LeadsToLast : {A B : Type 0} → (ℕ → A → Option B) → (A → B) → List A → List A → List ℕ → Type 0
LeadsToLast at of items through numbers =
    (place : ℕ) → place < length numbers → option_map of (slice_get items (slice_index numbers place)) ≡ last_or None (filter_map (at place) through)

-- the number of a line of the source, with the place of its word
abbrev pub numbered : SourceValue → Option ℕ → Option (ℕ × ℕ)
numbered (Line number text) place = option_map (λ place. (number, place)) place
numbered (OfLiteral text) place = None
numbered (OfName symbol) place = None

abbrev pub cell_of : List (ℕ × WordValue) → RowValue → Option (ℕ × ℕ)
cell_of words row = numbered row.source (place_of words row.shown)

-- whether a line comes after another, if there is one
abbrev pub is_later : Option (ℕ × ℕ) → ℕ → Bool
is_later None line = true
is_later (Some cell) line = nat_lt cell.0 line

-- the place of a line, if it is from this number on
abbrev pub place_from : ℕ → ℕ × ℕ → Option ℕ
place_from number cell = if nat_le number cell.0 then Some cell.1 else None

-- of each number the first place of the lines from it on that were looked through
abbrev pub IsFirstFrom : List (ℕ × WordValue) → List RowValue → List (ℕ × ℕ) → Type 0
IsFirstFrom words through cells =
    (number : ℕ) → slice_get (filter_map (place_from number) cells) 0 ≡ slice_get (filter_map (place_in words number) through) 0

-- the lines of the definitions that were looked through
abbrev pub HasDefinitions : List RowValue → List (List ℕ × ℕ) → Type 0
HasDefinitions through lines = (symbol : List ℕ) → lookup (bytes_eq symbol) lines ≡ lookup (bytes_eq symbol) (definitions_in through)

pub record IsIndexed (words : List (ℕ × WordValue)) (rows : List RowValue) (index : Index) : Type 0 where
  pub row_count : length index.rows.items ≡ 4000
  pub word_count : length index.words.items ≡ 4000
  pub last_row : LeadsToLast (source_in words) (λ row. row.source) rows rows index.rows.items
  pub last_word : LeadsToLast word_in (λ word. word.1) words words index.words.items
  pub rising : IsNonDecreasingBy (λ cell. cell.0) index.cells.items
  pub first_cell : IsFirstFrom words rows index.cells.items
  pub definitions : HasDefinitions rows index.lines.entries
