-- The lines of a program that have a formula, and what is measured of them.
use Rattle.std.specs.Prelude.{ℕ, List, [], map, Option, Some, None}
use Rattle.mix_formula.specs.declared.rows.Row.{Row}
use Rattle.mix_formula.specs.Text.{bracket_of}

-- a line: its number and its bytes, how often it was executed, and how long that took
pub record RowValue : Type 0 where
  pub line : ℕ
  pub text : List ℕ
  pub count : ℕ
  pub time : ℕ

abbrev pub row_value : Row → RowValue
row_value row = record { line = row.line; text = row.text.now; count = row.count; time = row.time }

abbrev pub all_rows : List Row → List RowValue
all_rows rows = map row_value rows

-- the formula of a line; without brackets there is nothing of it
abbrev pub formula_if : Option (List ℕ) → List ℕ
formula_if None = []
formula_if (Some formula) = formula

unfoldable pub formula_in : List ℕ → List ℕ
formula_in line = formula_if (bracket_of line)

abbrev pub formula_of : RowValue → List ℕ
formula_of row = formula_in row.text
