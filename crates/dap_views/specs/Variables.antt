-- The variables of a scope: each with its name, its value, and the reference of what is inside it, or 0.
use Rattle.std.specs.Prelude.{ℕ, List, [], ◌∷◌, None, Some}
use Rattle.mix_machine.specs.units.Row.{RowState}
use Rattle.dap_asked.specs.Value.{row_characters}

-- what a unit has written and what it reads: the rows and the blocks, by their numbers
abbrev pub row_text : RowState → List ℕ
row_text (Some words) = row_characters words
row_text None = 12 ∷ []
