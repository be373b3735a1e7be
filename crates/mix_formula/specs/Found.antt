-- Values as counts and as parts of sums.
use Rattle.std.specs.Prelude.{ℕ, ◌==◌, pos, negsuc, Bool, false}
use Rattle.mix_formula.specs.declared.arithmetic.Reckoned.{Reckoned}
use Rattle.mix_formula.specs.declared.arithmetic.Reckoned.TheVariants.{Known, Unknown, TooLarge}
use Rattle.mix_formula.specs.declared.value.Value.{Value}
use Rattle.mix_formula.specs.declared.value.Value.TheVariants as told

-- whether a value is a count
abbrev pub is_count : Value → ℕ → Bool
is_count (told.Known (pos n)) count = n == count
is_count (told.Known (negsuc n)) count = false
is_count told.Unknown count = false
is_count (told.Unreadable place) count = false
is_count told.TooLarge count = false

-- a value as a part of a sum; what cannot be read has none
abbrev pub part_of : Value → Reckoned
part_of (told.Known n) = Known n
part_of told.Unknown = Unknown
part_of (told.Unreadable place) = Unknown
part_of told.TooLarge = TooLarge
