-- How `show counts` counts: one execution more, and what the marks of location and clock say.
use Rattle.std.specs.Prelude.{ℕ, ◌+◌, ◌<◌, ◌^◌, List, get_or}
use Rattle.mix_machine.specs.declared.part.Mark.{Mark}
use Rattle.mix_machine.specs.declared.part.Mark.TheVariants as mark
use Rattle.mix_session.specs.declared.tally.Tally.{Tally}

-- no execution
abbrev pub no_tally : Tally
no_tally = record { count = 0; time = 0 }

-- the tally of a cell
abbrev pub tally_in : List Tally → ℕ → Tally
tally_in tallies p = get_or tallies p no_tally

-- one execution more, that took so long
abbrev pub with_one : Tally → ℕ → Tally
with_one tally time = record { count = tally.count + 1; time = tally.time + time }

-- there is room for one execution more
pub record HasRoom (tally : Tally) : Type 0 where
  pub count : tally.count + 1 < 2 ^ 64
  pub time : tally.time + 2 ^ 64 < 2 ^ 128

-- the location that a mark says, and the time; 0 where it is another's
abbrev pub location_in : Mark → ℕ
location_in (mark.Location n) = n
location_in other = 0

abbrev pub time_in : Mark → ℕ
time_in (mark.Time t) = t
time_in other = 0
