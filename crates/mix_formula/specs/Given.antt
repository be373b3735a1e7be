-- The value of a name as it is given: NAME=VALUE.
use Rattle.std.specs.Prelude.{ℕ, ◌==◌, List, [], ◌∷◌, Option, Some, None, if◌then◌else◌}
use Rattle.mix_formula.specs.declared.value.Value.{Value}
use Rattle.mix_formula.specs.declared.value.Value.TheVariants as told
use Rattle.mix_formula.specs.Formula.{value_of}
use Rattle.mix_formula.specs.Names.{NameValue, name_value}
use Rattle.mix_formula.specs.Text.{after_word, is_name, word_in}

abbrev pub known_as : List ℕ → Value → Option NameValue
known_as name (told.Known value) = Some (name_value name value)
known_as name told.Unknown = None
known_as name (told.Unreadable place) = None
known_as name told.TooLarge = None

-- a name with the value of a formula without names, behind an equals sign
abbrev pub given_from : List ℕ → List ℕ → Option NameValue
given_from name [] = None
given_from name (byte ∷ formula) = if byte == 61 then (if is_name name then known_as name (value_of [] formula) else None) else None

unfoldable pub given_of : List ℕ → Option NameValue
given_of word = given_from (word_in word) (after_word word)
