-- What is waited for after `until`: a condition, or several with the word `or` between one and the next.
use Rattle.std.specs.Prelude.{ℕ, zero, suc, List, [], ◌∷◌, ◌++◌, take, drop, Bool, true, false, Option, Some, None, Result, Ok, Err, codes, if◌then◌else◌}
use Rattle.mix_word.specs.Word.{WordValue}
use Rattle.mixal_text.specs.Names.{NamesValue}
use Rattle.mix_session.specs.Conditions.{most_conditions}
use Rattle.mix_session.specs.Keyword.{is_name, keyword_named, until_name, all_untils}
use Rattle.mix_session.specs.Setting.{condition_in}
use Rattle.mix_session.specs.declared.condition.Condition.{Condition}
use Rattle.mix_session.specs.declared.fault.Refusal.{Refusal}
use Rattle.mix_session.specs.declared.fault.Refusal.TheVariants.{BadArgument, OutOfRange}
use Rattle.mix_session.specs.declared.keyword.target.SetWord.TheVariants as set
use Rattle.mix_session.specs.declared.keyword.target.UntilWord.{UntilWord}
use Rattle.mix_session.specs.declared.keyword.target.UntilWord.TheVariants as until

-- how many words follow a keyword, whichever they are: one in `cell E`, `loc E` and `unit N`
abbrev pub operands_of : UntilWord → ℕ
operands_of (until.Set set.Cell) = 1
operands_of (until.Set set.Location) = 1
operands_of until.Unit = 1
operands_of other = 0

-- how many words the first condition has, by its keyword
abbrev pub words_of_keyword : Option UntilWord → ℕ
words_of_keyword (Some keyword) = suc (operands_of keyword)
words_of_keyword None = 1

abbrev pub words_of_first : List (List ℕ) → ℕ
words_of_first [] = 0
words_of_first (word ∷ more) = words_of_keyword (keyword_named until_name all_untils word)

-- the first condition, and the words after it
abbrev pub first_condition : NamesValue → WordValue → List (List ℕ) → Result Condition Refusal
first_condition names here words = condition_in names here (take (words_of_first words) words)

abbrev pub after_first : List (List ℕ) → List (List ℕ)
after_first words = drop (words_of_first words) words

-- a condition and the others: a bad word in any of them is reported before a number that is out of range
abbrev pub with_others : Result Condition Refusal → Result (List Condition) Refusal → Result (List Condition) Refusal
with_others (Ok condition) (Ok others) = Ok (condition ∷ others)
with_others (Ok condition) (Err refusal) = Err refusal
with_others (Err OutOfRange) (Ok others) = Err OutOfRange
with_others (Err OutOfRange) (Err refusal) = Err refusal
with_others (Err refusal) others = Err refusal

-- what follows a condition: no word; or the word `or`, and then the others
abbrev pub others_in : (List (List ℕ) → Result (List Condition) Refusal) → List (List ℕ) → Result (List Condition) Refusal
others_in others [] = Ok []
others_in others (word ∷ more) = if is_name word (codes "or") then others more else Err BadArgument

-- at most so many conditions, and at least one
abbrev pub conditions_up_to : ℕ → NamesValue → WordValue → List (List ℕ) → Result (List Condition) Refusal
conditions_up_to zero names here words = Err BadArgument
conditions_up_to (suc most) names here words =
    with_others (first_condition names here words) (others_in (conditions_up_to most names here) (after_first words))

-- `COND`, `COND or COND`
unfoldable pub conditions_in : NamesValue → WordValue → List (List ℕ) → Result (List Condition) Refusal
conditions_in names here words = conditions_up_to most_conditions names here words

-- conditions that were read, then the others; and whether no number was out of range up to there
abbrev pub with_read : List Condition → Bool → Result (List Condition) Refusal → Result (List Condition) Refusal
with_read read is_in_range (Err refusal) = Err refusal
with_read read true (Ok others) = Ok (read ++ others)
with_read read false (Ok others) = Err OutOfRange
