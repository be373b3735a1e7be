-- A row of a unit's output: its words, or none for the mark of a new page.
use Rattle.std.specs.Prelude.{List, map, Option, Some}
use Rattle.mix_word.specs.Word.{WordValue, plus}

abbrev pub RowState : Type 0
RowState = Option (List WordValue)

-- the row that some words write: their signs are not written
abbrev pub row_of : List WordValue → RowState
row_of words = Some (map (λ w. plus w.magnitude) words)
