-- A machine that is at one moment of a timeline after another: after the first changes of all.
use Rattle.std.specs.Prelude.{◌≡◌, ◌≤◌, ℕ, Some, length, take}
use Rattle.undo_core.specs.Replay.{replay}
use Rattle.mix_machine.specs.Prelude.{does, WorldState}
use Rattle.mix_session.specs.Change.{all_changes}
use Rattle.mix_session.specs.Timeline.{Timeline}

pub record MomentsState : Type 0 where
  pub of : Timeline
  pub world : WorldState

-- a machine is the one after the first n of all changes
abbrev pub IsMoment : Timeline → ℕ → WorldState → Type 0
IsMoment t n w = (n ≤ length (all_changes t)) × (replay does t.first (take n (all_changes t)) ≡ Some w)
