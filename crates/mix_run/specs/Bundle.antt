-- The bundle of a source, a deck and a script, and what a talk is about.
use Rattle.std.specs.Prelude.{ℕ, Bool, true, List, [], ◌∷◌, ◌++◌, ◌-◌, ◌==◌, Option, None, Some, codes, length, slice_get, if◌then◌else◌}

-- whether a byte, if there is one, is a line feed
abbrev pub is_end_byte : Option ℕ → Bool
is_end_byte None = true
is_end_byte (Some byte) = byte == 10

-- a text whose last line is ended by a line feed
abbrev pub ended : List ℕ → List ℕ
ended text = if is_end_byte (slice_get text (length text - 1)) then text else text ++ 10 ∷ []

-- a part of a bundle after its marker; of an empty one there is none
abbrev pub marked : List ℕ → List ℕ → List ℕ
marked marker [] = []
marked marker (byte ∷ text) = marker ++ 10 ∷ ended (byte ∷ text)

-- what a talk is about: the file of its source, the text of that, and the deck of its devices
pub record OriginValue : Type 0 where
  pub name : List ℕ
  pub source : List ℕ
  pub deck : List ℕ

-- the bundle of a source, a deck and a script
unfoldable pub bundle_of : OriginValue → List ℕ → List ℕ
bundle_of origin script = ended origin.source ++ (marked (codes "%DEVICES") origin.deck ++ marked (codes "%SCRIPT") script)

abbrev pub origin_of : List ℕ → List ℕ → List ℕ → OriginValue
origin_of name source deck = record { name = name; source = source; deck = deck }
