-- What stops steps that are done one after the other.
use Rattle.std.specs.Prelude.{ℕ, Bool, true, false, not, ◌&&◌, ◌||◌, List, [], ◌∷◌, Option, None, Some, nat_lt, slice_index_or, slice_set, if◌then◌else◌}
use Rattle.mix_machine.specs.World.{WorldState}
use Rattle.mix_machine.specs.Part.{is_same_mark, mark_of}
use Rattle.mix_machine.specs.declared.watch.Seen.{Seen}

-- of each cell whether its location stops them; and a part that does, once its mark is not the one seen
pub record WatchState : Type 0 where
  pub locations : List Bool
  pub seen : Option Seen

-- the same with some locations more
abbrev pub with_all : List ℕ → List Bool → List Bool
with_all [] locations = locations
with_all (p ∷ ps) locations = with_all ps (slice_set locations p true)

-- and with one more, where it is that of a cell
abbrev pub with_location : Option ℕ → List Bool → List Bool
with_location None locations = locations
with_location (Some n) locations = if nat_lt n 4000 then slice_set locations n true else locations

-- whether the location is one of those
abbrev pub is_there : List Bool → WorldState → Bool
is_there locations w = nat_lt w.loc 4000 && slice_index_or locations w.loc false

-- whether the part has another mark than was seen
abbrev pub is_other : Option Seen → WorldState → Bool
is_other None w = false
is_other (Some seen) w = not (is_same_mark seen.mark (mark_of w seen.part))

-- whether steps stop at a machine
abbrev pub stops_at : WatchState → WorldState → Bool
stops_at watch w = is_there watch.locations w || is_other watch.seen w
