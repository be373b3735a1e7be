-- A local symbol (1.3.2): one digit, and H for here, B for backward or F for forward.
use Rattle.std.specs.Prelude.{ℕ, ◌-◌, ◌==◌, List, [], ◌∷◌, Option, Some, None, if◌then◌else◌}
use Rattle.std.specs.Char.{is_ascii_digit, to_ascii_uppercase}
use Rattle.mixal_text.specs.declared.local.Direction.{Direction}
use Rattle.mixal_text.specs.declared.local.Direction.TheVariants.{Here, Backward, Forward}
use Rattle.mixal_text.specs.declared.local.Local.{Local}

-- what a capital letter after the digit means
abbrev pub direction_of : ℕ → Option Direction
direction_of letter =
    if letter == 72 then Some Here else (if letter == 66 then Some Backward else (if letter == 70 then Some Forward else None))

abbrev pub local_toward : ℕ → Option Direction → Option Local
local_toward d None = None
local_toward d (Some direction) = Some (record { digit = d; direction = direction })

-- the local symbol that a whole text is, in either case of letters
unfoldable pub local_of : List ℕ → Option Local
local_of (digit ∷ letter ∷ []) =
    if is_ascii_digit digit then local_toward (digit - 48) (direction_of (to_ascii_uppercase letter)) else None
local_of _ = None
