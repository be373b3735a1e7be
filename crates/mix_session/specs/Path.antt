-- Where the instructions were executed in the course of the changes: how often each of them, column by column.
use Rattle.std.specs.Prelude.{ℕ, ◌+◌, ◌-◌, ◌*◌, ◌/◌, ◌<◌, ◌≡◌, ◌==◌, ◌&&◌, Bool, false, List, get_or, length, nat_le, nat_lt, Option, Some, None, if◌then◌else◌}
use Rattle.std.specs.Option.{option_map}
use Rattle.mix_machine.specs.declared.old.Change.{Change}
use Rattle.mix_session.specs.Counts.{is_step, is_step_at, number_if, sum_below}
use Rattle.mix_session.specs.Timeline.{Timeline}
use Rattle.mix_session.specs.declared.path.Span.{Span}

-- the column of the change after the first n, where it is one of the range
abbrev pub column_of : Span → ℕ → Option ℕ
column_of span n =
    if nat_le span.from n && nat_lt n span.until then Some ((n - span.from) * span.columns / (span.until - span.from)) else None

-- whether a column is a certain one
abbrev pub is_column : ℕ → Option ℕ → Bool
is_column c None = false
is_column c (Some d) = d == c

-- how often the instruction at a place was executed by the changes of a column
abbrev pub path_at : Timeline → Span → ℕ → ℕ → ℕ
path_at t span c p = sum_below (length t.changes) (λ n. number_if (is_column c (column_of span n) && is_step_at t p n) 1)

-- counts of all cells, column after column
abbrev pub count_in : List ℕ → ℕ → ℕ → ℕ
count_in counts c p = get_or counts (c * 4000 + p) 0

abbrev pub IsPath : Timeline → Span → List ℕ → Type 0
IsPath t span counts = (c p : ℕ) → c < span.columns → p < 4000 → count_in counts c p ≡ path_at t span c p

-- which of them counts a step of the range that was done at a cell
abbrev pub key_of : Span → Change → ℕ → ℕ → Option ℕ
key_of span change n place = if is_step change && nat_lt place 4000 then option_map (λ c. c * 4000 + place) (column_of span n) else None
