-- What a person types at a prompt, and the line of a script that it stands for.
use Rattle.std.specs.Prelude.{ℕ, List, [], ◌∷◌, ◌++◌, ◌&&◌, ◌||◌, ◌==◌, false, not, nat_le, length, take, drop, find, is_some, Option, None, Some, option_and_then, Bool, true, codes, if◌then◌else◌}
use Rattle.std.specs.Option.{option_or}
use Rattle.std.specs.Str.{str_eq_ignore_ascii_case}
use Rattle.std.specs.List.{list_any}
use Rattle.mix_lines.specs.Lines.{words}
use Rattle.mix_word.specs.Register.{all_registers, name_of_register}
use Rattle.mixal_text.specs.Prelude.{NamesValue, symbol_of}
use Rattle.mix_person.specs.declared.person.Line.{Line}
use Rattle.mix_person.specs.declared.person.Line.TheVariants as line_kind
use Rattle.mix_person.specs.declared.word.PersonWord.{PersonWord}
use Rattle.mix_person.specs.declared.word.PersonWord.TheVariants.{Step, Next, Run, Trace, Break, Back, Forth, Goto, Continue, Clear, Set, Show, Quit, Help, Question, Print, Listing, Where, Watch, Delete, Display, Until, Undisplay, Examine, Exit, Save, SaveOver, Source, Reload, Advance, ReverseStep}

-- the words that a person may begin a line with
abbrev pub name_of : PersonWord → List ℕ
name_of Step = codes "step"
name_of Next = codes "next"
name_of Run = codes "run"
name_of Trace = codes "trace"
name_of Break = codes "break"
name_of Back = codes "back"
name_of Forth = codes "forth"
name_of Goto = codes "goto"
name_of Continue = codes "continue"
name_of Clear = codes "clear"
name_of Set = codes "set"
name_of Show = codes "show"
name_of Quit = codes "quit"
name_of Help = codes "help"
name_of Question = codes "?"
name_of Print = codes "print"
name_of Listing = codes "list"
name_of Where = codes "where"
name_of Watch = codes "watch"
name_of Delete = codes "delete"
name_of Display = codes "display"
name_of Until = codes "until"
name_of Undisplay = codes "undisplay"
name_of Examine = codes "x"
name_of Exit = codes "exit"
name_of Save = codes "save"
name_of SaveOver = codes "save!"
name_of Source = codes "source"
name_of Reload = codes "reload"
name_of Advance = codes "advance"
name_of ReverseStep = codes "reverse-step"

-- in this order: of several that begin in the same way, the first one is meant
abbrev pub all_words : List PersonWord
all_words =
    Step ∷ Next ∷ Run ∷ Trace ∷ Break ∷ Back ∷ Forth ∷ Goto ∷ Continue ∷ Clear ∷ Set ∷ Show ∷ Quit ∷ Help ∷ Question
    ∷ Print ∷ Listing ∷ Where ∷ Watch ∷ Delete ∷ Display ∷ Until ∷ Undisplay ∷ Examine ∷ Exit ∷ Save ∷ SaveOver ∷ Source ∷ Reload
    ∷ Advance ∷ ReverseStep ∷ []

-- the command that each stands for
abbrev pub command_of : PersonWord → List ℕ
command_of Next = codes "step"
command_of Continue = codes "run"
command_of Question = codes "help"
command_of Print = codes "show"
command_of Where = codes "show"
command_of Watch = codes "run"
command_of Display = codes "show"
command_of Until = codes "run"
command_of Examine = codes "show"
command_of Exit = codes "quit"
command_of Advance = codes "run"
command_of ReverseStep = codes "back"
command_of word = name_of word

-- whether a word is a beginning of a name, in capitals or small letters
abbrev pub is_beginning : List ℕ → List ℕ → Bool
is_beginning word name = nat_le (length word) (length name) && str_eq_ignore_ascii_case word (take (length word) name)

-- whether a word is one of these, in capitals or small letters
abbrev pub is_one_of : List (List ℕ) → List ℕ → Bool
is_one_of [] word = false
is_one_of (name ∷ names) word = str_eq_ignore_ascii_case word name || is_one_of names word

-- other debuggers' words for a step, and for one step back
abbrev pub other_word : List ℕ → Option PersonWord
other_word word =
    if is_one_of (codes "stepi" ∷ codes "si" ∷ codes "nexti" ∷ codes "ni" ∷ []) word then Some Step
    else if is_one_of (codes "rs" ∷ codes "rn" ∷ codes "reverse-next" ∷ codes "reverse-stepi" ∷ []) word then Some ReverseStep
    else None

-- the word that is begun
abbrev pub word_begun : List ℕ → Option PersonWord
word_begun word = option_or (find (λ known. is_beginning word (name_of known)) all_words) (other_word word)

-- whether a word is the name of a register
abbrev pub is_register : List ℕ → Bool
is_register word = list_any (λ r. str_eq_ignore_ascii_case word (name_of_register r)) all_registers

-- whether a word is a register as the book writes it, with an r before its name
abbrev pub is_written : List ℕ → Bool
is_written [] = false
is_written (byte ∷ name) = (byte == 114 || byte == 82) && is_register name

-- the name of a register, without that r; any other word is as it is
abbrev pub plain : List ℕ → List ℕ
plain word = if is_written word then drop 1 word else word

-- the first word may be a register
abbrev pub plain_first : List (List ℕ) → List (List ℕ)
plain_first [] = []
plain_first (word ∷ rest) = plain word ∷ rest

-- whether a word is a symbol of the program that has this value; not if it is the first word of another condition, or a register with its r
abbrev pub is_symbol : NamesValue → List ℕ → Bool
is_symbol names word =
    is_some (option_and_then names.value (symbol_of word))
    && not (is_written word || is_one_of (codes "over" ∷ codes "cmp" ∷ codes "cell" ∷ codes "unit" ∷ codes "loc" ∷ codes "conflict" ∷ []) word)

-- the first word of a condition: a symbol is its cell, also one that has a register's name
abbrev pub condition_begun : NamesValue → List ℕ → List (List ℕ)
condition_begun names word = if is_symbol names word then codes "cell" ∷ word ∷ [] else plain word ∷ []

-- of the words of conditions with `or` between them, those come first that stand first, or after `or`
abbrev pub words_in : NamesValue → Bool → List ℕ → List (List ℕ)
words_in names is_first word = if is_first then condition_begun names word else word ∷ []

abbrev pub condition_words : NamesValue → Bool → List (List ℕ) → List (List ℕ)
condition_words names is_first [] = []
condition_words names is_first (word ∷ rest) =
    words_in names is_first word ++ condition_words names (str_eq_ignore_ascii_case word (codes "or")) rest

abbrev pub conditions : NamesValue → List (List ℕ) → List (List ℕ)
conditions names words = condition_words names true words

-- `until` may be begun too
abbrev pub until_of : List ℕ → List ℕ
until_of word = if is_beginning word (codes "until") then codes "until" else word

-- words, each with a blank before it
abbrev pub spaced : List (List ℕ) → List ℕ
spaced [] = []
spaced (word ∷ rest) = 32 ∷ (word ++ spaced rest)

-- what follows the number of steps of `run`: until what is watched, where nothing is said
abbrev pub limit_of : NamesValue → List ℕ → List (List ℕ) → List ℕ
limit_of names watch [] = watch
limit_of names watch (word ∷ rest) = spaced (until_of word ∷ conditions names rest)

-- as many steps as one command may do, until a condition, or one of several
abbrev pub most_until : NamesValue → List (List ℕ) → List ℕ
most_until names rest = spaced (codes "1000000" ∷ codes "until" ∷ conditions names rest)

-- what follows `run`: as many steps as one command may do, where no number is said
abbrev pub steps_of : NamesValue → List ℕ → List (List ℕ) → List ℕ
steps_of names watch [] = spaced (codes "1000000" ∷ []) ++ watch
steps_of names watch (word ∷ rest) = if is_beginning word (codes "until") then most_until names rest else spaced (word ∷ []) ++ limit_of names watch rest

-- what follows `back` and `forth` alone: until what is watched, or one change, where nothing is
abbrev pub one_of : List ℕ → List ℕ
one_of [] = spaced (codes "1" ∷ [])
one_of (byte ∷ watch) = byte ∷ watch

-- what follows `back` and `forth`
abbrev pub changes_of : NamesValue → List ℕ → List (List ℕ) → List ℕ
changes_of names watch [] = one_of watch
changes_of names watch (word ∷ rest) = spaced (until_of word ∷ conditions names rest)

-- from a cell to a cell: one alone is the first and the last
abbrev pub last_of : List ℕ → List (List ℕ) → List (List ℕ)
last_of word [] = word ∷ []
last_of word (other ∷ rest) = other ∷ rest

abbrev pub range_of : List (List ℕ) → List (List ℕ)
range_of [] = []
range_of (word ∷ rest) = word ∷ last_of word rest

-- whether a word is a part of the machine that `show regs` has a line of
abbrev pub is_part : List ℕ → Bool
is_part word = is_register (plain word) || is_one_of (codes "over" ∷ codes "cmp" ∷ codes "loc" ∷ codes "clock" ∷ []) word

-- one word after `print`: a part of the machine, unless it is a symbol; else a word by a W-value
abbrev pub part_of : NamesValue → List ℕ → List (List ℕ)
part_of names word = if is_part word && not (is_symbol names word) then plain word ∷ [] else codes "value" ∷ word ∷ []

-- two words or more after it: a cell, or words of a W-value
abbrev pub words_printed : List ℕ → List ℕ → List (List ℕ) → List (List ℕ)
words_printed word other rest =
    if str_eq_ignore_ascii_case word (codes "cell") then codes "values" ∷ range_of (other ∷ rest) else codes "value" ∷ word ∷ other ∷ rest

-- the words after `show` that show what follows `print`: the registers, a part of the machine, a cell, or a word by a W-value
abbrev pub printed_as : NamesValue → List ℕ → List (List ℕ) → List (List ℕ)
printed_as names word [] = part_of names word
printed_as names word (other ∷ rest) = words_printed word other rest

abbrev pub printed : NamesValue → List (List ℕ) → List (List ℕ)
printed names [] = codes "values" ∷ []
printed names (word ∷ rest) = printed_as names word rest

-- what follows `show`: a register, `last` alone, one cell alone, and what alters a register, too
abbrev pub shown_alone : NamesValue → List ℕ → List (List ℕ)
shown_alone names word =
    if is_register (plain word) then part_of names word else if str_eq_ignore_ascii_case word (codes "last") then word ∷ codes "1" ∷ [] else word ∷ []

abbrev pub writes_of : NamesValue → List ℕ → List ℕ → List (List ℕ) → List (List ℕ)
writes_of names word other rest = if is_symbol names other then word ∷ codes "cell" ∷ other ∷ rest else word ∷ plain other ∷ rest

abbrev pub shown_as : NamesValue → List ℕ → List (List ℕ) → List (List ℕ)
shown_as names word [] = shown_alone names word
shown_as names word (other ∷ rest) =
    if str_eq_ignore_ascii_case word (codes "cell") then codes "values" ∷ range_of (other ∷ rest)
    else if is_one_of (codes "cells" ∷ codes "values" ∷ codes "code" ∷ []) word then word ∷ range_of (other ∷ rest)
    else if str_eq_ignore_ascii_case word (codes "writes") then writes_of names word other rest
    else word ∷ other ∷ rest

abbrev pub shown : NamesValue → List (List ℕ) → List (List ℕ)
shown names [] = []
shown names (word ∷ rest) = shown_as names word rest

-- how many changes: one, where nothing is said
abbrev pub count_of : List (List ℕ) → List ℕ
count_of [] = spaced (codes "1" ∷ [])
count_of (word ∷ rest) = spaced (word ∷ rest)

-- what follows each command, where this is watched
abbrev pub after_of : NamesValue → List ℕ → PersonWord → List (List ℕ) → List ℕ
after_of names watch Run rest = steps_of names watch rest
after_of names watch Continue rest = steps_of names watch rest
after_of names watch Until rest = most_until names rest
after_of names watch Watch rest = most_until names rest
after_of names watch Back rest = changes_of names watch rest
after_of names watch Forth rest = changes_of names watch rest
after_of names watch Set rest = spaced (plain_first rest)
after_of names watch Show rest = spaced (shown names rest)
after_of names watch Print rest = spaced (printed names rest)
after_of names watch Display rest = spaced (printed names rest)
after_of names watch Where rest = spaced (codes "code" ∷ range_of rest)
after_of names watch Examine rest = spaced (codes "values" ∷ range_of rest)
after_of names watch Advance rest = spaced (codes "1000000" ∷ codes "until" ∷ codes "loc" ∷ rest)
after_of names watch ReverseStep rest = count_of rest
after_of names watch word rest = spaced rest

abbrev pub line_begun : NamesValue → List ℕ → List ℕ → Option PersonWord → List (List ℕ) → List ℕ
line_begun names watch line None rest = line
line_begun names watch line (Some word) rest = command_of word ++ after_of names watch word rest

abbrev pub line_of_words : NamesValue → List ℕ → List ℕ → List ℕ → List (List ℕ) → List ℕ
line_of_words names again watch line [] = again
line_of_words names again watch line (word ∷ rest) = line_begun names watch line (word_begun word) rest

-- the line of a script that a person's line stands for: itself, where it begins with no word that is known, and `again` where it is blank; what is
-- watched is the end of `run`, `back` and `forth`, where they say no other. The line `watch COND` is read as `run 1000000 until COND`, which is not
-- executed; nor is `display`, which is read as `print` is. A part of the machine is shown by a line `show PART`, which no script has.
unfoldable pub person_line : NamesValue → List ℕ → List ℕ → List ℕ → List ℕ
person_line names again watch line = line_of_words names again watch line (words line)

-- what is watched, said so: from `until` on
abbrev pub watched_in : List ℕ → List ℕ
watched_in typed = drop (length (codes "run 1000000")) typed

-- and the same from what follows `until` on
abbrev pub condition_in : List ℕ → List ℕ
condition_in typed = drop (length (codes "run 1000000 until")) typed

-- what a line is that begins with such a word: `quit` alone ends the talk
abbrev pub kind_of_word : Option PersonWord → List (List ℕ) → Line
kind_of_word None rest = line_kind.Command
kind_of_word (Some Help) rest = line_kind.Help
kind_of_word (Some Question) rest = line_kind.Help
kind_of_word (Some Listing) rest = line_kind.Listing
kind_of_word (Some Watch) rest = line_kind.Watch
kind_of_word (Some Delete) [] = line_kind.Delete
kind_of_word (Some Delete) (word ∷ rest) = line_kind.Command
kind_of_word (Some Display) rest = line_kind.Display
kind_of_word (Some Undisplay) [] = line_kind.Undisplay
kind_of_word (Some Undisplay) (word ∷ rest) = line_kind.Command
kind_of_word (Some Save) rest = line_kind.Save
kind_of_word (Some SaveOver) rest = line_kind.SaveOver
kind_of_word (Some Source) rest = line_kind.Source
kind_of_word (Some Reload) [] = line_kind.Reload
kind_of_word (Some Reload) (word ∷ rest) = line_kind.Command
kind_of_word (Some Quit) [] = line_kind.Quit
kind_of_word (Some Exit) [] = line_kind.Quit
kind_of_word (Some Quit) (word ∷ rest) = line_kind.Command
kind_of_word (Some Exit) (word ∷ rest) = line_kind.Command
kind_of_word (Some other) rest = line_kind.Command

abbrev pub kind_of : List (List ℕ) → Line
kind_of [] = line_kind.Command
kind_of (word ∷ rest) = kind_of_word (word_begun word) rest

-- the name of the file in the words of a line that saves or sources it: the one after the first; none, where there is no word more, or more than one
abbrev pub name_in : List (List ℕ) → Option (List ℕ)
name_in [] = None
name_in (word ∷ []) = None
name_in (word ∷ name ∷ []) = Some name
name_in (word ∷ name ∷ other ∷ rest) = None
