-- What the columns of `show counts` add up to.
use Rattle.std.specs.Prelude.{ℕ, length}
use Rattle.std.specs.List.{filter}
use Rattle.mix_machine.specs.Do.{IsReal}
use Rattle.mix_session.specs.Change.{change_at}
use Rattle.mix_session.specs.Counts.{is_step, sum_below}
use Rattle.mix_session.specs.Timeline.{Timeline}

-- the sum of a number of each cell
unfoldable pub sum_of_cells : (ℕ → ℕ) → ℕ
sum_of_cells f = sum_below 4000 f

-- how many of the changes done are steps
abbrev pub steps_done : Timeline → ℕ
steps_done t = length (filter is_step t.changes)

-- the places that its changes name are those of cells
abbrev pub AreReal : Timeline → Type 0
AreReal t = (n : ℕ) → IsReal (change_at t n)
