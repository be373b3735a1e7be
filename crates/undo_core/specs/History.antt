-- What a journal is to its callers.
use Rattle.std.specs.Prelude.{◌≡◌, ℕ, List, Some, Result}
use Rattle.undo_core.specs.Replay.{replay}

-- the first state, the changes done since, and those that were taken back and stand ahead, the next one first
pub record History (S C : Type 0) : Type 0 where
  pub first : S
  pub changes : List C
  pub ahead : List C

-- P holds of the state that the changes give
abbrev pub HoldsOfState : {S C F : Type 0} → (S → C → Result S F) → History S C → (S → Type 0) → Type 0
HoldsOfState {S} gives h P = (s : S) → replay gives h.first h.changes ≡ Some s → P s

-- a journal read from its last change backwards, and how many of its changes are left to read
pub record Reading (S C : Type 0) : Type 0 where
  pub of : History S C
  pub left : ℕ
