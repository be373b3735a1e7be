-- Values that are kept in units of 32 bits.
use Rattle.std.specs.Prelude.{ℕ, List, [], ◌∷◌, Option, None, Some}

-- a list of kept values, and for how many more there is room
pub record KeptList (O : Type 0) : Type 0 where
  pub items : List O
  pub room : ℕ

-- the unit that stands in the place of those that were read
abbrev pub unit_list : Option ℕ → List ℕ
unit_list None = []
unit_list (Some unit) = unit ∷ []
