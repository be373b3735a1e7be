-- Several conditions that a command waits for, and how they are kept: in order at the front of as many places as there may be at most.
use Rattle.std.specs.Prelude.{◌≡◌, ◌≤◌, ◌-◌, ℕ, List, ◌++◌, length, drop, replicate}
use Rattle.mix_machine.specs.declared.part.Part.TheVariants.{Clock}
use Rattle.mix_session.specs.declared.condition.Condition.{Condition}
use Rattle.mix_session.specs.declared.condition.Condition.TheVariants.{Alters}

-- the most that one command may wait for
abbrev pub most_conditions : ℕ
most_conditions = 8

-- what is at the places that are not used
abbrev pub unused : ℕ → List Condition
unused count = replicate (most_conditions - count) (Alters Clock)

-- the places of some conditions
abbrev pub places_of : List Condition → List Condition
places_of conditions = conditions ++ unused (length conditions)

-- so many of the places are used, from the first on
pub record AreKept (places : List Condition) (count : ℕ) : Type 0 where
  pub within : count ≤ most_conditions
  pub all : length places ≡ most_conditions
  pub others : drop count places ≡ unused count
