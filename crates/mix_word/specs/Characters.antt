-- The characters of MIX, each at its code (1.3.1). The Greek letters have stand-ins.
use Rattle.std.specs.Prelude.{ℕ, ◌==◌, List, ◌++◌, Option, slice_index_or, codes}
use Rattle.std.specs.List.{position}
use Rattle.std.specs.Char.{to_ascii_uppercase}

-- from the code 0 on: a blank, A to I, delta, J to R, sigma, pi, S to Z, the digits, and the rest
abbrev pub characters : List ℕ
characters =
    codes " ABCDEFGHI" ++ codes "~JKLMNOPQR" ++ codes "[#STUVWXYZ" ++ codes "0123456789"
    ++ codes ".,()+-*/=$<>@;:'"

-- the byte that prints a code; those that have none print as a question mark
unfoldable pub character_of : ℕ → ℕ
character_of code = slice_index_or characters code 63

-- a small letter is read as its capital
unfoldable pub character_code : ℕ → Option ℕ
character_code byte = position (λ c. c == to_ascii_uppercase byte) characters
