-- What putting some of the last kept values back comes to, of the state and of the list of kept values.
use Rattle.std.specs.Prelude.{ℕ, ◌≡◌, ◌-◌, ◌<◌, List, ◌≤◌, length, take, drop, reverse, Some}
use Rattle.undo_core.specs.Prelude.{newest_part, put_back}
use Rattle.mix_machine.specs.World.{WorldState}
use Rattle.mix_machine.specs.Write.{put_value, is_clock}
use Rattle.mix_machine.specs.declared.old.Old.{Old}

-- So many of the last values are put back, and the others are left. None of them but the last one is a clock, in which changes end.
pub record Restored (values left : List Old) (before after : WorldState) (count : ℕ) : Type 0 where
  pub some : 0 < count
  pub back : put_back put_value (drop (length values - count) values) before ≡ Some after
  pub cut : left ≡ take (length values - count) values
  pub part : count ≤ newest_part is_clock count (reverse values)
