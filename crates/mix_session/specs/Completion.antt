-- How a line of the script may go on: the last word is not finished, and it may become what begins as it does, in capitals or small letters, of what may
-- come after the words before it. These are names of commands and other keywords, in the order of their tables; and where an expression or a W-value
-- may begin, the symbols of the program, in the order in which they got their values.
use Rattle.std.specs.Prelude.{ℕ, zero, suc, ◌-◌, Bool, List, [], ◌∷◌, length, take, map, codes, Option, None, Some, if◌then◌else◌}
use Rattle.std.specs.List.{filter, list_any}
use Rattle.mix_lines.specs.Lines.{is_blank, words}
use Rattle.mixal_asm.specs.Prelude.{ProgramValue, symbols_of}
use Rattle.mix_session.specs.Conditions.{most_conditions}
use Rattle.mix_session.specs.Keyword.{is_name, keyword_named, command_name, all_commands, back_name, all_backs, forth_name, all_forths}
use Rattle.mix_session.specs.Keyword.{set_name, all_sets, until_name, all_untils, toggle_name, all_toggles, indicator_name, all_indicators}
use Rattle.mix_session.specs.ShowRequest.{show_name, all_shows}
use Rattle.mix_session.specs.declared.completion.after.Next.{Next}
use Rattle.mix_session.specs.declared.completion.after.Next.TheVariants as next
use Rattle.mix_session.specs.declared.keyword.command.CommandWord.{CommandWord}
use Rattle.mix_session.specs.declared.keyword.command.CommandWord.TheVariants as command
use Rattle.mix_session.specs.declared.keyword.command.BackWord.{BackWord}
use Rattle.mix_session.specs.declared.keyword.command.BackWord.TheVariants as back
use Rattle.mix_session.specs.declared.keyword.command.ForthWord.{ForthWord}
use Rattle.mix_session.specs.declared.keyword.command.ForthWord.TheVariants as forth
use Rattle.mix_session.specs.declared.keyword.target.SetWord.{SetWord}
use Rattle.mix_session.specs.declared.keyword.target.SetWord.TheVariants as set
use Rattle.mix_session.specs.declared.keyword.target.UntilWord.{UntilWord}
use Rattle.mix_session.specs.declared.keyword.target.UntilWord.TheVariants as until
use Rattle.mix_session.specs.declared.request.topics.ShowWord.{ShowWord}
use Rattle.mix_session.specs.declared.request.topics.ShowWord.TheVariants as show

-- ---- the words of a line so far

-- what follows the last blank: the word that is not finished, which is empty after a blank
abbrev pub unfinished : List ℕ → List ℕ
unfinished [] = []
unfinished (byte ∷ more) = if list_any is_blank (byte ∷ more) then unfinished more else byte ∷ more

-- the words before it
abbrev pub finished : List ℕ → List (List ℕ)
finished line = words (take (length line - length (unfinished line)) line)

-- ---- what may come after words

-- this, where no word is there yet
abbrev pub if_first : Next → List (List ℕ) → Next
if_first what [] = what
if_first what (word ∷ more) = next.Nothing

-- one expression or W-value, or two
abbrev pub one_value : List (List ℕ) → Next
one_value words = if_first next.Value words

abbrev pub two_values : List (List ℕ) → Next
two_values [] = next.Value
two_values (word ∷ more) = one_value more

-- a word more, which may be this; and what follows it, where it is there
abbrev pub after_operand : Next → (List (List ℕ) → Next) → List (List ℕ) → Next
after_operand operand whole [] = operand
after_operand operand whole (word ∷ more) = whole more

-- `REG`, `over`, `cmp`, `cell E`, `unit N`, `loc E`, `conflict`; and what follows the condition, where it is whole
abbrev pub after_until_word : (List (List ℕ) → Next) → UntilWord → List (List ℕ) → Next
after_until_word whole (until.Set set.Cell) words = after_operand next.Value whole words
after_until_word whole (until.Set set.Location) words = after_operand next.Value whole words
after_until_word whole until.Unit words = after_operand next.Nothing whole words
after_until_word whole _ words = whole words

abbrev pub after_until_named : (List (List ℕ) → Next) → Option UntilWord → List (List ℕ) → Next
after_until_named whole None words = next.Nothing
after_until_named whole (Some word) words = after_until_word whole word words

abbrev pub after_condition : (List (List ℕ) → Next) → List (List ℕ) → Next
after_condition whole [] = next.Condition
after_condition whole (word ∷ more) = after_until_named whole (keyword_named until_name all_untils word) more

-- after a condition the word `or`, where so many others may follow, and then those
abbrev pub or_others : ℕ → (List (List ℕ) → Next) → List (List ℕ) → Next
or_others zero conditions words = next.Nothing
or_others (suc others) conditions [] = next.Or
or_others (suc others) conditions (word ∷ more) = if is_name word (codes "or") then conditions more else next.Nothing

-- where so many conditions may be waited for
abbrev pub after_conditions : ℕ → List (List ℕ) → Next
after_conditions zero words = next.Nothing
after_conditions (suc others) words = after_condition (or_others others (after_conditions others)) words

-- `COND`, `COND or COND`, and so on
unfoldable pub after_until : List (List ℕ) → Next
after_until words = after_conditions most_conditions words

-- `run N`, `run N until COND`
abbrev pub after_steps : List (List ℕ) → Next
after_steps [] = next.Until
after_steps (word ∷ more) = if is_name word (codes "until") then after_until more else next.Nothing

unfoldable pub after_run : List (List ℕ) → Next
after_run [] = next.Nothing
after_run (steps ∷ more) = after_steps more

-- `back N`, `back all`, `back break`, `back until COND`
abbrev pub after_back_named : Option BackWord → List (List ℕ) → Next
after_back_named (Some back.Until) words = after_until words
after_back_named _ words = next.Nothing

unfoldable pub after_back : List (List ℕ) → Next
after_back [] = next.Back
after_back (word ∷ more) = after_back_named (keyword_named back_name all_backs word) more

-- `forth N`, `forth all`, `forth until COND`
abbrev pub after_forth_named : Option ForthWord → List (List ℕ) → Next
after_forth_named None words = next.Nothing
after_forth_named (Some forth.All) words = next.Nothing
after_forth_named (Some forth.Until) words = after_until words

unfoldable pub after_forth : List (List ℕ) → Next
after_forth [] = next.Forth
after_forth (word ∷ more) = after_forth_named (keyword_named forth_name all_forths word) more

-- `set REG W`, `set cell E W`, `set loc E`, `set over on`, `set cmp L`
abbrev pub after_set_word : SetWord → List (List ℕ) → Next
after_set_word (set.Register r) words = one_value words
after_set_word set.Cell words = two_values words
after_set_word set.Location words = one_value words
after_set_word set.Toggle words = if_first next.Toggle words
after_set_word set.Indicator words = if_first next.Indicator words

abbrev pub after_set_named : Option SetWord → List (List ℕ) → Next
after_set_named None words = next.Nothing
after_set_named (Some word) words = after_set_word word words

unfoldable pub after_set : List (List ℕ) → Next
after_set [] = next.Set
after_set (word ∷ more) = after_set_named (keyword_named set_name all_sets word) more

-- `show regs`, `show cells E E`, `show value W`, and so on
abbrev pub after_show_word : ShowWord → List (List ℕ) → Next
after_show_word show.Cells words = two_values words
after_show_word show.Code words = two_values words
after_show_word show.Value words = one_value words
after_show_word show.Values words = two_values words
after_show_word show.Writes words = after_conditions 1 words
after_show_word _ words = next.Nothing

abbrev pub after_show_named : Option ShowWord → List (List ℕ) → Next
after_show_named None words = next.Nothing
after_show_named (Some word) words = after_show_word word words

unfoldable pub after_show : List (List ℕ) → Next
after_show [] = next.Topic
after_show (word ∷ more) = after_show_named (keyword_named show_name all_shows word) more

-- the words after a command's first; `step N`, `trace N`, `goto N` take a number, `break E`, `break line N` and `clear` in the same manner a place
abbrev pub after_command : CommandWord → List (List ℕ) → Next
after_command command.Run words = after_run words
after_command command.Back words = after_back words
after_command command.Forth words = after_forth words
after_command command.Set words = after_set words
after_command command.Break words = if_first next.Place words
after_command command.Clear words = if_first next.Place words
after_command command.Show words = after_show words
after_command _ words = next.Nothing

abbrev pub after_named : Option CommandWord → List (List ℕ) → Next
after_named None words = next.Nothing
after_named (Some word) words = after_command word words

-- what may come after the words of a line
unfoldable pub next_after : List (List ℕ) → Next
next_after [] = next.Command
next_after (word ∷ more) = after_named (keyword_named command_name all_commands word) more

-- ---- the words that this may be

abbrev pub symbol_names : ProgramValue → List (List ℕ)
symbol_names program = map (λ symbol. symbol.0) (symbols_of program.names)

abbrev pub next_words : ProgramValue → Next → List (List ℕ)
next_words program next.Nothing = []
next_words program next.Command = map command_name all_commands
next_words program next.Until = codes "until" ∷ []
next_words program next.Back = map back_name all_backs
next_words program next.Forth = map forth_name all_forths
next_words program next.Set = map set_name all_sets
next_words program next.Condition = map until_name all_untils
next_words program next.Or = codes "or" ∷ []
next_words program next.Topic = map show_name all_shows
next_words program next.Place = codes "line" ∷ symbol_names program
next_words program next.Value = symbol_names program
next_words program next.Toggle = map toggle_name all_toggles
next_words program next.Indicator = map indicator_name all_indicators

-- whether a word begins so, in capitals or small letters
abbrev pub begins_so : List ℕ → List ℕ → Bool
begins_so front word = is_name front (take (length front) word)

-- the words that the last one of a line may become
unfoldable pub completions : ProgramValue → List ℕ → List (List ℕ)
completions program line = filter (begins_so (unfinished line)) (next_words program (next_after (finished line)))
