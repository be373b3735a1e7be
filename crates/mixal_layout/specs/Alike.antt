-- What no layout alters: what a line says, and what is written in it.
use Rattle.std.specs.Prelude.{◌≡◌, ℕ, Bool, true, false, List, [], ◌∷◌, filter}
use Rattle.mixal_text.specs.Prelude.{line_of, is_nonblank}

-- the bytes of a line that are no blanks, in their order
abbrev pub written : List ℕ → List ℕ
written text = filter is_nonblank text

-- two lines that the assembler reads as the same LOC, OP and ADDRESS, the same word of ALF, the same remark or the same fault, and
-- that have the same bytes but for blanks
pub record Alike (first second : List ℕ) : Type 0 where
  pub reads : line_of second ≡ line_of first
  pub writes : written second ≡ written first

-- as many lines, each like the one in its place
abbrev pub AllAlike : List (List ℕ) → List (List ℕ) → Type 0
AllAlike [] [] = Unit {0}
AllAlike [] (second ∷ more) = ⊥
AllAlike (first ∷ rest) [] = ⊥
AllAlike (first ∷ rest) (second ∷ more) = Alike first second × AllAlike rest more

-- what a test that passes says
abbrev pub IfTrue : Type 0 → Bool → Type 0
IfTrue P true = P
IfTrue P false = Unit {0}
