-- How the table of names is kept: beside the values, by each digit d how many dH there are, and the value of the last one.
use Rattle.std.specs.Prelude.{◌≡◌, ℕ, ◌+◌, ◌≤◌, nat_eq, List, Option, Some, None, if◌then◌else◌}
use Rattle.std.specs.Map.{lookup}
use Rattle.mix_word.specs.Word.{WordValue}
use Rattle.mixal_asm.specs.declared.key.Key.{Key}
use Rattle.mixal_asm.specs.declared.key.Key.TheVariants.{Name, Local, Literal}
use Rattle.mixal_asm.specs.declared.names.Latest.{Latest}
use Rattle.mixal_asm.specs.PassOne.{NamesSoFar, value_of, locals_in, back_of}

abbrev pub count_of : Option Latest → ℕ
count_of None = 0
count_of (Some latest) = latest.count

abbrev pub latest_value : Option Latest → Option WordValue
latest_value None = None
latest_value (Some latest) = Some latest.value

pub record IsTable (values : NamesSoFar) (latest : List (ℕ × Latest)) : Type 0 where
  pub value : (d : ℕ) → latest_value (lookup (nat_eq d) latest) ≡ back_of values d
  pub count : (d : ℕ) → count_of (lookup (nat_eq d) latest) ≡ locals_in d values
  pub fresh : (d n : ℕ) → locals_in d values ≤ n → value_of values (Local d n) ≡ None

-- a name that may get a value: it has none, and dH is the next one
abbrev pub IsNew : NamesSoFar → Key → Type 0
IsNew names (Name symbol) = value_of names (Name symbol) ≡ None
IsNew names (Local d n) = n ≡ locals_in d names
IsNew names (Literal j) = value_of names (Literal j) ≡ None

-- what the table keeps of a name that gets a value: dH is then the last one
abbrev pub IsNoted : List (ℕ × Latest) → List (ℕ × Latest) → Key → WordValue → Type 0
IsNoted old new (Name symbol) value = new ≡ old
IsNoted old new (Local d n) value =
    (e : ℕ) → lookup (nat_eq e) new ≡ (if nat_eq d e then Some (record { count = n + 1; value = value }) else lookup (nat_eq e) old)
IsNoted old new (Literal j) value = new ≡ old

-- the number of a dH is at most so large
abbrev pub IsWithin : ℕ → Key → Type 0
IsWithin size (Name symbol) = Unit {0}
IsWithin size (Local d n) = n ≤ size
IsWithin size (Literal j) = Unit {0}
