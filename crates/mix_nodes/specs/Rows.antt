-- The rows of nodes with links between them: how many links each is from a root at least.
use Rattle.std.specs.Prelude.{ℕ, zero, suc, ◌==◌, ◌&&◌, ◌||◌, nat_lt, Bool, false, List, get_or, Option, Some, None, if◌then◌else◌}
use Rattle.std.specs.Option.{option_or}

-- whether a number below n passes a test
abbrev pub any_below : ℕ → (ℕ → Bool) → Bool
any_below zero test = false
any_below (suc n) test = any_below n test || test n

-- the least number below n that passes a test
abbrev pub least_below : ℕ → (ℕ → Bool) → Option ℕ
least_below zero test = None
least_below (suc n) test = option_or (least_below n test) (if test n then Some n else None)

-- whether one of n nodes is at most k links from a root
unfoldable pub is_within : (ℕ → Bool) → (ℕ → ℕ → Bool) → ℕ → ℕ → ℕ → Bool
is_within root leads n zero b = root b
is_within root leads n (suc k) b = is_within root leads n k b || any_below n (λ a. is_within root leads n k a && leads a b)

-- the row of a node, if it is below k
abbrev pub row_below : (ℕ → Bool) → (ℕ → ℕ → Bool) → ℕ → ℕ → ℕ → Option ℕ
row_below root leads n k b = least_below k (λ j. is_within root leads n j b)

-- the row of a node: the least number of links from a root to it; none where it can't be reached
abbrev pub row_by : (ℕ → Bool) → (ℕ → ℕ → Bool) → ℕ → ℕ → Option ℕ
row_by root leads n b = if nat_lt b n then row_below root leads n n b else None

-- ---- rows in a list

-- the row of a node in a list of rows; none behind it
abbrev pub row_in : List (Option ℕ) → ℕ → Option ℕ
row_in rows b = get_or rows b None

abbrev pub row_if : Bool → ℕ → Option ℕ
row_if found row = if found then Some row else None

-- whether a node is in a row
abbrev pub is_row : ℕ → Option ℕ → Bool
is_row row None = false
is_row row (Some other) = other == row
