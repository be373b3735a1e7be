-- Texts in columns.
use Rattle.std.specs.Prelude.{ℕ, ◌-◌, List, ◌++◌, length, replicate}

-- so many blanks
abbrev pub blanks : ℕ → List ℕ
blanks n = replicate n 32

-- a text left in so many places
abbrev pub left_in : ℕ → List ℕ → List ℕ
left_in places text = text ++ blanks (places - length text)

-- a text right in so many places
abbrev pub right_in : ℕ → List ℕ → List ℕ
right_in places text = blanks (places - length text) ++ text
