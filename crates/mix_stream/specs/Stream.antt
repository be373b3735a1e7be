-- What reading up to a limit and writing a whole text do to known bytes and to the counts of failures.
use Rattle.std.specs.Prelude.{◌≡◌, ◌↔◌, ℕ, ◌≤◌, List, take, drop, length, Option, None, Some, ⊤, ◌+◌, ◌-◌}
use Rattle.std.specs.Io.KnownBytes.{Appends}

-- of known bytes the end is left, and at most so many are gone
abbrev pub ConsumesAtMost : Option (List ℕ) → Option (List ℕ) → ℕ → Type 0
ConsumesAtMost None new most = ⊤
ConsumesAtMost (Some known) None most = ⊥
ConsumesAtMost (Some known) (Some left) most = (left ≡ drop (length known - length left) known) × (length known ≤ length left + most)

-- a beginning of the bytes was appended
abbrev pub AppendsFront : Option (List ℕ) → Option (List ℕ) → List ℕ → Type 0
AppendsFront old new bytes = (n : ℕ) × (n ≤ length bytes) × Appends old new (take n bytes)

-- a count of failures: it rose by one exactly where a failure is answered, and otherwise it is what it was
abbrev pub CountsFailure : Type 0 → ℕ → ℕ → Type 0
CountsFailure answered old new = (answered ↔ (new ≡ old + 1)) × ((answered → ⊥) → new ≡ old)
