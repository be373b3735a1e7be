-- The names of formulas and their values.
use Rattle.std.specs.Prelude.{ℕ, ℤ, ◌==◌, ◌||◌, Bool, false, List, [], ◌∷◌, map, Option, Some, None, if◌then◌else◌}
use Rattle.std.specs.Str.{str_eq_ignore_ascii_case}
use Rattle.mix_formula.specs.declared.names.Named.{Named}
use Rattle.mix_formula.specs.declared.names.Scope.{Scope}

-- a name and its value, and the line whose count gave it
pub record NameValue : Type 0 where
  pub name : List ℕ
  pub value : ℤ
  pub line : Option ℕ

abbrev pub name_value : List ℕ → ℤ → NameValue
name_value name value = record { name = name; value = value; line = None }

abbrev pub named : Named → NameValue
named entry = record { name = entry.name.now; value = entry.value; line = entry.line }

abbrev pub all_named : List Named → List NameValue
all_named entries = map named entries

-- small letters are capital ones
unfoldable pub is_same_name : List ℕ → List ℕ → Bool
is_same_name a b = str_eq_ignore_ascii_case a b

-- the value of a name: the first one that is given
abbrev pub value_in : List NameValue → List ℕ → Option ℤ
value_in [] name = None
value_in (first ∷ rest) name = if is_same_name first.name name then Some first.value else value_in rest name

-- whether the count of a line gave a name its value
abbrev pub is_line : Option ℕ → ℕ → Bool
is_line None line = false
is_line (Some other) line = other == line

abbrev pub has_given : List NameValue → ℕ → Bool
has_given [] line = false
has_given (first ∷ rest) line = is_line first.line line || has_given rest line

-- names with values, and one more before them
abbrev pub tried_first : Option Named → List NameValue → List NameValue
tried_first None names = names
tried_first (Some tried) names = named tried ∷ names

abbrev pub names_of : Scope → List NameValue
names_of scope = tried_first scope.tried (all_named scope.names.now)
