-- The values of the machine as texts.
use Rattle.std.specs.Prelude.{ℕ, List}
use Rattle.std.specs.Str.{trim_end}
use Rattle.mix_word.specs.Word.{WordValue}
use Rattle.mix_session.specs.ShowUnit.{characters_text}

-- words in characters, without the blanks at their end
abbrev pub row_characters : List WordValue → List ℕ
row_characters words = trim_end (characters_text words)
