-- The breakpoints: of each cell whether it has one, kept as a bit.
use Rattle.std.specs.Prelude.{ℕ, zero, suc, ◌+◌, ◌/◌, ◌%◌, ◌==◌, Bool, List, [], ◌∷◌, slice_index_or}
use Rattle.std.specs.Int.{bit_at}

-- whether the bit of a cell is set: 64 cells to a number
abbrev pub bit_of : List ℕ → ℕ → Bool
bit_of words p = bit_at (slice_index_or words (p / 64) 0) (p % 64) == 1

-- the bits of so many cells, from one on
unfoldable pub bits_from : ℕ → ℕ → List ℕ → List Bool
bits_from zero p words = []
bits_from (suc n) p words = bit_of words p ∷ bits_from n (p + 1) words

-- of each of the 4,000 cells whether it has a breakpoint
unfoldable pub breaks_in : List ℕ → List Bool
breaks_in words = bits_from 4000 0 words
