-- The first five characters of a text, padded with blanks.
use Rattle.std.proofs.Common.{◌≡◌, ℕ, min, List, [], ◌∷◌, ◌++◌, length, take, drop, refl, arith}
use Rattle.mixal_text.specs.Alf.{five_of}

pub five-of : (text : List ℕ) (count : ℕ) → count ≡ min (length text) 5
    → take count text ++ drop count (32 ∷ 32 ∷ 32 ∷ 32 ∷ 32 ∷ []) ≡ five_of text
five-of [] count e = rw e refl
five-of (a ∷ []) count e = rw e refl
five-of (a ∷ b ∷ []) count e = rw e refl
five-of (a ∷ b ∷ c ∷ []) count e = rw e refl
five-of (a ∷ b ∷ c ∷ d ∷ []) count e = rw e refl
five-of (a ∷ b ∷ c ∷ d ∷ f ∷ rest) count e = let five : count ≡ 5 = omega arith in rw five refl

pub ruleset characters = (five-of)
