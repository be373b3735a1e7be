-- What a run knows of conflicts while it goes on, where it waits for one: the transfers under way, for the changes that are done next; and which of
-- the changes done was the last that conflicts, for those that are taken back.
use Rattle.std.specs.Prelude.{◌≡◌, ◌<◌, ◌≤◌, ◌==◌, ℕ, Bool, true, false, List, length, is_some}
use Rattle.std.specs.List.{list_any}
use Rattle.mix_machine.specs.declared.old.Change.{Change}
use Rattle.mix_machine.specs.declared.old.Change.TheVariants.{Step}
use Rattle.mix_machine.specs.Transfers.{TransfersState, transfers_after, conflict_of}
use Rattle.mix_session.specs.Condition.{is_conflict}
use Rattle.mix_session.specs.Conflicts.{transfers_at, conflict_at}
use Rattle.mix_session.specs.Timeline.{Timeline, world_of}
use Rattle.mix_session.specs.declared.command.stops.Way.{Way}
use Rattle.mix_session.specs.declared.command.stops.Way.TheVariants as way
use Rattle.mix_session.specs.declared.condition.Condition.{Condition}

-- whether a run waits for a conflict; the transfers; and the number of that change, counted from 1, or 0 where none conflicts
pub record KnownState : Type 0 where
  pub waits : Bool
  pub transfers : TransfersState
  pub last : ℕ

-- whether one of some conditions is a conflict
abbrev pub has_conflict : List Condition → Bool
has_conflict conditions = list_any is_conflict conditions

-- which of the first n changes is the last that conflicts
pub record IsLast (t : Timeline) (last : ℕ) (n : ℕ) : Type 0 where
  pub within : last ≤ n
  pub after : (k : ℕ) → last < k → k ≤ n → is_some (conflict_at t k) ≡ false
  pub here : 0 < last → is_some (conflict_at t last) ≡ true

-- what is known before the next change of a run
abbrev pub IsKnown : Way → KnownState → Timeline → Type 0
IsKnown way.Back known t = IsLast t known.last (length t.changes)
IsKnown other known t = known.transfers ≡ transfers_at t (length t.changes)

-- the same, and whether it is needed
pub record Knows (conditions : List Condition) (way : Way) (known : KnownState) (t : Timeline) : Type 0 where
  pub waits : known.waits ≡ has_conflict conditions
  pub is_known : known.waits ≡ true → IsKnown way known t

-- A change is looked at that is done next: what is known after it, and whether it conflicts.
abbrev pub LooksAt : Change → Timeline → KnownState → KnownState → Bool → Type 0
LooksAt change t old new told =
    (new.transfers ≡ transfers_after old.transfers (world_of t) change) × (told ≡ is_some (conflict_of old.transfers (world_of t) change))

-- the next change of a run: a step, or the last one done, which is taken back
abbrev pub LooksOn : Way → Timeline → KnownState → KnownState → Bool → Type 0
LooksOn way.Back t old new told = told ≡ (old.last == length t.changes)
LooksOn other t old new told = LooksAt Step t old new told

-- whether it is told of a change that it conflicts, where that is asked
abbrev pub Tells : List Condition → Bool → Bool → Type 0
Tells conditions told conflicts = has_conflict conditions ≡ true → told ≡ conflicts
