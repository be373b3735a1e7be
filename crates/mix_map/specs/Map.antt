-- The map of a run: a row for each location whose instruction was executed, and boxes in it, by how often that was in each column of changes.
use Rattle.std.specs.Prelude.{ℕ, zero, suc, ◌+◌, ◌*◌, ◌==◌, ◌&&◌, nat_le, nat_lt, Bool, List, [], ◌∷◌, ◌++◌, get_or, if◌then◌else◌}
use Rattle.mix_map.specs.declared.parts.MapBox.{MapBox}
use Rattle.mix_map.specs.declared.parts.MapRow.{MapRow}

-- how often an instruction was executed in a column, by a list that has them column after column; there are no others
abbrev pub counted : ℕ → List ℕ → ℕ → ℕ → ℕ
counted columns counts c p = if nat_lt c columns && nat_lt p 4000 then get_or counts (c * 4000 + p) 0 else 0

-- ---- rows

-- .. in the first n columns
abbrev pub times_in : (ℕ → ℕ → ℕ) → ℕ → ℕ → ℕ
times_in count p zero = 0
times_in count p (suc n) = times_in count p n + count n p

-- those of the first n locations whose instruction was executed, with how often it was
unfoldable pub rows_below : (ℕ → ℕ → ℕ) → ℕ → ℕ → List (ℕ × ℕ)
rows_below count columns zero = []
rows_below count columns (suc n) = rows_below count columns n ++ (if times_in count n columns == 0 then [] else (n, times_in count n columns) ∷ [])

-- the location of a row, and how often its instruction was executed
abbrev pub row_seen : MapRow → ℕ × ℕ
row_seen row = (row.place, row.times)

-- ---- boxes

-- 1, if a box holds a column of the row with a number
abbrev pub held : Bool → ℕ
held holds = if holds then 1 else 0

abbrev pub holds : ℕ → ℕ → MapBox → Bool
holds r c box = box.row == r && (nat_le box.from c && nat_lt c box.to)

-- how many boxes do
abbrev pub boxes_at : ℕ → ℕ → List MapBox → ℕ
boxes_at r c [] = 0
boxes_at r c (box ∷ boxes) = held (holds r c box) + boxes_at r c boxes

-- one, if the instruction was executed in it
abbrev pub one_if : ℕ → ℕ
one_if count = if count == 0 then 0 else 1
