-- What writing comes to, of the state and of the list of kept values.
use Rattle.std.specs.Prelude.{◌≡◌, ◌+◌, ◌≤◌, ◌++◌, List, length, Result, OnOk, OnErr}
use Rattle.undo_core.specs.Pack.{KeptList}
use Rattle.mix_machine.specs.World.{WorldState}
use Rattle.mix_machine.specs.Write.{Write, write_all, kept_by}
use Rattle.mix_machine.specs.declared.old.Old.{Old}

-- the list has room for what the writes replace
abbrev pub HasRoom : KeptList Old → List Write → Type 0
HasRoom kept xs = length xs ≤ kept.room

-- The writes are done, and what they replace is kept, in the room that was there.
pub record Wrote (xs : List Write) (before after : WorldState) (olds news : KeptList Old) : Type 0 where
  pub state : after ≡ write_all before xs
  pub kept : news.items ≡ olds.items ++ kept_by before xs
  pub room : olds.room ≤ news.room + length xs

-- The writes are done, or out of memory, nothing is altered.
pub record Tried {T E : Type 0} (xs : List Write) (before after : WorldState) (olds news : KeptList Old) (answer : Result T E) : Type 0 where
  pub wrote : OnOk answer (Wrote xs before after olds news)
  pub same : OnErr answer (after ≡ before)
  pub same_kept : OnErr answer (news.items ≡ olds.items)
