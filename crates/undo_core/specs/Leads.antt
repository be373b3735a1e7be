-- How the values that a journal keeps lead back from its state to the first one.
use Rattle.std.specs.Prelude.{◌≡◌, ℕ, ◌-◌, ◌<◌, ◌≤◌, Bool, List, [], ◌∷◌, length, take, drop, get_or, reverse, Option, Some, Result, Ok, IsSome}
use Rattle.undo_core.specs.Replay.{replay, put_back, unwound, TakesBack, Overwrote}
use Rattle.undo_core.specs.Counts.{parts_of, total, counts_in, open_in, ArePlaces}
use Rattle.undo_core.specs.Runs.{items_of, IsRising}
use Rattle.undo_core.specs.declared.runs.Run.{Run}

-- the newest change: it gave this state, and the last values, as many as are counted, take it back
pub record IsNewest {S C O F : Type 0} (gives : S → C → Result S F) (keeps : S → C → List O) (put : S → O → Option S)
    (change : C) (count : ℕ) (kept : List O) (before now : S) : Type 0 where
  pub given : gives before change ≡ Ok now
  pub values : drop (length kept - count) kept ≡ keeps before change
  pub undone : put_back put (keeps before change) now ≡ Some before
  pub within : count ≤ length kept

-- the changes, the newest one first, with the number of the values of each, lead from first to now
abbrev pub Leads : {S C O F : Type 0} → (S → C → Result S F) → (S → C → List O) → (S → O → Option S) → S →
    List C → List ℕ → List O → S → Type 0
Leads gives keeps put first [] [] kept now = (kept ≡ []) × (now ≡ first)
Leads gives keeps put first [] (_ ∷ _) kept now = ⊥
Leads gives keeps put first (_ ∷ _) [] kept now = ⊥
Leads {S} gives keeps put first (change ∷ changes) (count ∷ counts) kept now =
    (before : S) × IsNewest gives keeps put change count kept before now
    × Leads gives keeps put first changes counts (take (length kept - count) kept) before

-- the changes done, one for each count, lead from the first state to this one, and those after them can be done
pub record IsSound {S C O F : Type 0} (gives : S → C → Result S F) (keeps : S → C → List O) (put : S → O → Option S)
    (state : S) (kept : List O) (changes : List C) (counts : List ℕ) : Type 0 where
  pub within : length counts ≤ length changes
  pub done : Leads gives keeps put (unwound put kept state) (reverse (take (length counts) changes)) (reverse counts) kept state
  pub ahead : IsSome (replay gives state (drop (length counts) changes))

-- values of so many changes, all of which have ended
pub record IsParted {O : Type 0} (last : O → Bool) (kept : List O) (places : List ℕ) (done : ℕ) : Type 0 where
  pub counted : done ≡ length (counts_in last (reverse places) (reverse kept))
  pub placed : ArePlaces (length kept) (reverse places)
  pub ended : open_in last (reverse places) (reverse kept) ≡ 0

-- the same of what a journal stores
pub record IsStored {S C O F : Type 0} (gives : S → C → Result S F) (keeps : S → C → List O) (put : S → O → Option S) (last : O → Bool)
    (state : S) (kept : List O) (runs : List (Run C)) (places : List ℕ) (done : ℕ) : Type 0 where
  pub rising : IsRising 0 runs
  pub parted : IsParted last kept places done
  pub sound : IsSound gives keeps put state kept (items_of 0 runs) (counts_in last (reverse places) (reverse kept))

-- the values are those of the change after the first n, and take it back
abbrev pub AreOf : {S C O F : Type 0} → (S → C → Result S F) → (S → C → List O) → (S → O → Option S) → S → List C → ℕ → List O → Type 0
AreOf gives keeps put first changes n values = TakesBack gives put first changes n values × Overwrote gives keeps first changes n values

-- each part of the values is that of the change of its number
pub record TakeBack {S C O F : Type 0} (gives : S → C → Result S F) (keeps : S → C → List O) (put : S → O → Option S) (first : S) (changes : List C)
    (kept : List O) (counts : List ℕ) (left : ℕ) : Type 0 where
  pub counted : left ≡ length counts
  pub whole : total counts ≡ length kept
  pub parts : (k : ℕ) → k < length counts → AreOf gives keeps put first changes k (get_or (parts_of counts kept) k [])

-- the same, where the values, so many of them, are parted by what they say and at places
pub record IsRead {S C O F : Type 0} (gives : S → C → Result S F) (keeps : S → C → List O) (put : S → O → Option S) (last : O → Bool) (first : S)
    (changes : List C) (kept : List O) (count : ℕ) (places : List ℕ) (left : ℕ) : Type 0 where
  pub all : count ≡ length kept
  pub parted : IsParted last kept places left
  pub back : TakeBack gives keeps put first changes kept (counts_in last (reverse places) (reverse kept)) left
