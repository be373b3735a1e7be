-- What `set` sets, and what is waited for after `until`: a keyword and the words after it.
use Rattle.std.specs.Prelude.{ℕ, List, Result, Ok, Err}
use Rattle.mix_word.specs.Word.{WordValue}
use Rattle.mixal_text.specs.Prelude.{NamesValue, ◌>>=◌}
use Rattle.mix_machine.specs.declared.part.Part.{Part}
use Rattle.mix_machine.specs.declared.old.Change.{Change}
use Rattle.mix_machine.specs.declared.old.Change.TheVariants.{SetReg, SetCell, SetLoc, SetOver, SetCmp}
use Rattle.mix_machine.specs.declared.part.Part.TheVariants as part
use Rattle.mix_session.specs.Keyword.{set_name, all_sets, until_name, all_untils, toggle_name, all_toggles, indicator_name, all_indicators}
use Rattle.mix_session.specs.Operand.{no_word, one_word, two_words, keyword_in, first_keyword, word_in, expression_in, place_of, one_place, one_unit}
use Rattle.mix_session.specs.declared.condition.Condition.{Condition}
use Rattle.mix_session.specs.declared.condition.Condition.TheVariants.{Alters, At, Conflicts}
use Rattle.mix_session.specs.declared.fault.Refusal.{Refusal}
use Rattle.mix_session.specs.declared.fault.Refusal.TheVariants.{BadArgument}
use Rattle.mix_session.specs.declared.keyword.target.SetWord.{SetWord}
use Rattle.mix_session.specs.declared.keyword.target.SetWord.TheVariants as set
use Rattle.mix_session.specs.declared.keyword.target.UntilWord.{UntilWord}
use Rattle.mix_session.specs.declared.keyword.target.UntilWord.TheVariants as until

-- what is waited for, after which there is no word
abbrev pub condition_alone : Condition → List (List ℕ) → Result Condition Refusal
condition_alone condition words = do
  none ← no_word words
  Ok condition

-- what is waited for, by its keyword and the words after it
abbrev pub condition_of : NamesValue → WordValue → UntilWord → List (List ℕ) → Result Condition Refusal
condition_of names here (until.Set (set.Register r)) words = condition_alone (Alters (part.Register r)) words
condition_of names here (until.Set set.Toggle) words = condition_alone (Alters part.Over) words
condition_of names here (until.Set set.Indicator) words = condition_alone (Alters part.Cmp) words
condition_of names here (until.Set set.Cell) words = do
  place ← one_place names here words
  Ok (Alters (part.Cell place))
condition_of names here (until.Set set.Location) words = do
  place ← one_place names here words
  Ok (At place)
condition_of names here until.Unit words = do
  unit ← one_unit words
  Ok (Alters (part.Unit unit))
condition_of names here until.Conflict words = condition_alone Conflicts words

-- `REG`, `over`, `cmp`, `cell E`, `unit N`, `loc E`, `conflict`
unfoldable pub condition_in : NamesValue → WordValue → List (List ℕ) → Result Condition Refusal
condition_in names here words = do
  first ← first_keyword until_name all_untils words
  condition_of names here first.0 first.1

-- the W-value that the only word is
abbrev pub one_value : NamesValue → WordValue → List (List ℕ) → Result WordValue Refusal
one_value names here words = do
  word ← one_word words
  word_in names here word

-- what a part is set to, by the only word left: a W-value, an expression, or a keyword; a unit and the clock are not set
abbrev pub setting_of : NamesValue → WordValue → Part → List (List ℕ) → Result Change Refusal
setting_of names here (part.Register r) words = do
  value ← one_value names here words
  Ok (SetReg r value)
setting_of names here (part.Cell place) words = do
  value ← one_value names here words
  Ok (SetCell place value)
setting_of names here part.Loc words = do
  place ← one_place names here words
  Ok (SetLoc place)
setting_of names here part.Over words = do
  word ← one_word words
  over ← keyword_in toggle_name all_toggles word
  Ok (SetOver over)
setting_of names here part.Cmp words = do
  word ← one_word words
  cmp ← keyword_in indicator_name all_indicators word
  Ok (SetCmp cmp)
setting_of names here (part.Unit n) words = Err BadArgument
setting_of names here part.Clock words = Err BadArgument

-- what `set` changes
abbrev pub change_of : NamesValue → WordValue → SetWord → List (List ℕ) → Result Change Refusal
change_of names here (set.Register r) words = setting_of names here (part.Register r) words
change_of names here set.Cell words = do
  pair ← two_words words
  at ← expression_in names here pair.0
  value ← word_in names here pair.1
  place ← place_of at
  Ok (SetCell place value)
change_of names here set.Location words = setting_of names here part.Loc words
change_of names here set.Toggle words = setting_of names here part.Over words
change_of names here set.Indicator words = setting_of names here part.Cmp words

-- `set REG W`, `set cell E W`, `set loc E`, `set over on`, `set cmp L`
unfoldable pub change_in : NamesValue → WordValue → List (List ℕ) → Result Change Refusal
change_in names here words = do
  first ← first_keyword set_name all_sets words
  change_of names here first.0 first.1
