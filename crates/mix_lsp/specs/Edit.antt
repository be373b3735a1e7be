-- Bytes of a text between which it may be cut.
use Rattle.std.specs.Prelude.{◌≡◌, ℕ, List, [], ◌∷◌, true, IfSome, slice_get}
use Rattle.mixal_text.specs.Parts.{is_new}

-- no character of UTF-8 begins before such a number of bytes and ends behind it
abbrev pub IsBoundary : List ℕ → ℕ → Type 0
IsBoundary text n = IfSome (slice_get text n) (λ byte. is_new byte ≡ true)
