-- The frames that a text begins with, as they are heard.
use Rattle.std.specs.Prelude.{◌≡◌, ℕ, List, [], ◌∷◌, Option, None, Some}
use Rattle.rpc_frame.specs.Frame.{First, whole, without_length, partial, too_long, first_frame}
use Rattle.rpc_stream.specs.Asked.{Body, Frame, asked_by}

module _ {F : Type 0} (of : Body → F) where
  -- a text begins with a frame whose body is heard so, and the rest follows it
  abbrev pub BeginsWith : First → F → List ℕ → Type 0
  BeginsWith (whole body rest) frame left = (frame ≡ of (Some body)) × (left ≡ rest)
  BeginsWith (without_length rest) frame left = (frame ≡ of None) × (left ≡ rest)
  BeginsWith partial frame left = ⊥
  BeginsWith too_long frame left = ⊥

  -- a text begins with these frames, one after the other, and the rest follows them
  abbrev pub Holds : List ℕ → List F → List ℕ → Type 0
  Holds text [] left = left ≡ text
  Holds text (frame ∷ frames) left = (rest : List ℕ) × BeginsWith (first_frame text) frame rest × Holds rest frames left

  -- the same of bytes that may not be known
  abbrev pub HearsOf : Option (List ℕ) → List F → Option (List ℕ) → Type 0
  HearsOf None frames new = Unit {0}
  HearsOf (Some text) frames None = ⊥
  HearsOf (Some text) frames (Some left) = Holds text frames left

-- the bodies themselves
abbrev pub HearsBodies : Option (List ℕ) → List Body → Option (List ℕ) → Type 0
HearsBodies old bodies new = HearsOf (λ body. body) old bodies new

-- what the bodies ask for
abbrev pub Hears : Option (List ℕ) → List Frame → Option (List ℕ) → Type 0
Hears old frames new = HearsOf asked_by old frames new
