-- Which parts that have numbers a change can have altered: those that the values name which it overwrote.
use Rattle.std.specs.Prelude.{◌≡◌, ◌<◌, ◌≤◌, ◌==◌, ◌⊎◌, ℕ, Bool, true, false, List, Option, None, Some, Ok, if◌then◌else◌}
use Rattle.undo_core.specs.Replay.{put_back}
use Rattle.mix_machine.specs.Prelude.{WorldState, IsWorld, does, put_value}
use Rattle.mix_machine.specs.declared.old.Change.{Change}
use Rattle.mix_machine.specs.declared.old.Old.{Old}
use Rattle.mix_machine.specs.declared.old.Old.TheVariants as old
use Rattle.mix_session.specs.Altered.{count_of, part_of, is_altered}
use Rattle.mix_session.specs.declared.altered.Kind.{Kind}
use Rattle.mix_session.specs.declared.altered.Kind.TheVariants.{Cells, Breaks, Units}
use Rattle.mix_session.specs.declared.altered.near.Numbers.{Numbers}
use Rattle.mix_session.specs.declared.altered.near.Named.{Named}

-- of which cell, breakpoint or unit a value is
abbrev pub number_in : Kind → Old → Option ℕ
number_in Cells (old.Cell p v) = Some p
number_in Breaks (old.Break p b) = Some p
number_in Units (old.Until n t) = Some n
number_in _ _ = None

abbrev pub is_number : ℕ → Option ℕ → Bool
is_number n None = false
is_number n (Some m) = m == n

-- whether a value is of the one with a number
abbrev pub is_of : Kind → ℕ → Old → Bool
is_of kind n o = is_number n (number_in kind o)

-- a number is none of these
abbrev pub IsOutside : Numbers → ℕ → Type 0
IsOutside numbers n = (n < numbers.first) ⊎ (numbers.end ≤ n)

-- none of the kind but those with these numbers differs between two states
pub record Covers (kind : Kind) (numbers : Numbers) (v w : WorldState) : Type 0 where
  pub within : numbers.end ≤ count_of kind
  pub others : (n : ℕ) → n < count_of kind → IsOutside numbers n → is_altered v w (part_of kind n) ≡ false

-- the same of all kinds
pub record HoldsAll (named : Named) (v w : WorldState) : Type 0 where
  pub cells : Covers Cells named.cells v w
  pub breaks : Covers Breaks named.breaks v w
  pub units : Covers Units named.units v w

-- a change leads from one state of the machine to another, and the values lead back
pub record Leads (kept : List Old) (v w : WorldState) : Type 0 where
  pub begins : IsWorld v
  pub ends : IsWorld w
  pub change : Change
  pub given : does v change ≡ Ok w
  pub back : put_back put_value kept w ≡ Some v
