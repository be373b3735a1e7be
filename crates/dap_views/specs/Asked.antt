-- The cells that `mix/state` is asked for: those in ranges, and those that are not +0.
use Rattle.std.specs.Prelude.{ℕ, ◌<◌, ◌≤◌}

abbrev pub IsRange : ℕ × ℕ → Type 0
IsRange range = (range.0 ≤ range.1) × (range.1 < 4000)
