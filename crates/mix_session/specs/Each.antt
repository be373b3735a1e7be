-- The texts of things in a row, one after the other.
use Rattle.std.specs.Prelude.{ℕ, ◌-◌, List, flat_map}
use Rattle.std.specs.List.{range_with_len}

-- the texts of the numbers from a first one up to the one before an end
unfoldable pub texts : (ℕ → List ℕ) → ℕ → ℕ → List ℕ
texts text first end = flat_map text (range_with_len first (end - first))
