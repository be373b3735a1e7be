-- Cells that stand one after the other.
use Rattle.std.specs.Prelude.{ℕ, zero, suc, ◌≡◌, ◌+◌, ◌-◌, ◌*◌, ◌≤◌, ◌<◌, List, [], ◌∷◌, map, slice_index_or, slice_set}
use Rattle.mix_word.specs.Word.{WordValue, zero_word}
use Rattle.mix_machine.specs.Pack.{long_word, header_of}
use Rattle.mix_machine.specs.declared.old.Old.{Old}
use Rattle.mix_machine.specs.declared.old.Old.TheVariants as old
use Rattle.mix_machine.specs.declared.pack.kind.Kind.TheVariants as kind

-- the values of cells that hold these words, from a place on
abbrev pub cell_values : ℕ → List WordValue → List Old
cell_values place [] = []
cell_values place (w ∷ ws) = old.Cell place w ∷ cell_values (place + 1) ws

-- the words that units say
abbrev pub words_of : List ℕ → List WordValue
words_of units = map long_word units

-- cells with these words put into those from a place on, the last one first
abbrev pub with_words : List WordValue → ℕ → List WordValue → List WordValue
with_words cells place [] = cells
with_words cells place (w ∷ ws) = slice_set (with_words cells (place + 1) ws) place w

-- cells with so many words copied from one place on to another on, one at a time, the first one first
abbrev pub with_copies : ℕ → ℕ → ℕ → List WordValue → List WordValue
with_copies zero from to cells = cells
with_copies (suc n) from to cells = with_copies n (from + 1) (to + 1) (slice_set cells to (slice_index_or cells from zero_word))

-- the header of a row of so many cells, from a place on
abbrev pub row_header : ℕ → ℕ → ℕ
row_header place count = header_of kind.Row (count * 4096 + (place + count - 1))

-- a header is that of such a row, and each of the cells is there
pub record IsRow (header place count : ℕ) : Type 0 where
  pub some : 0 < count
  pub is : header ≡ row_header place count
  pub cells : place + count ≤ 4000
