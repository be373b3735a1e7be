-- What a line of the script asks for: its words, in capitals or small letters, or what is wrong with them. A word that is missing,
-- unknown, bad or too many is reported before a number that is out of range.
use Rattle.std.specs.Prelude.{ℕ, List, [], ◌∷◌, codes, Option, Some, None, Result, Ok, Err, ok_or, if◌then◌else◌}
use Rattle.mix_session.specs.Keyword.{is_name, keyword_named, command_name, all_commands, back_name, all_backs, forth_name, all_forths}
use Rattle.mix_session.specs.Operand.{no_word, one_word, number_in, from_one, up_to, place_named}
use Rattle.mix_session.specs.Setting.{change_in}
use Rattle.mix_session.specs.Until.{conditions_in}
use Rattle.mix_session.specs.ShowRequest.{topic_in}
use Rattle.mix_lines.specs.Lines.{words, is_comment}
use Rattle.mix_word.specs.Word.{WordValue}
use Rattle.mixal_text.specs.Prelude.{NamesValue, ◌>>=◌}
use Rattle.mixal_asm.specs.Prelude.{ProgramValue, cell_from}
use Rattle.mix_session.specs.Names.{names_of}
use Rattle.mix_session.specs.declared.fault.Refusal.{Refusal}
use Rattle.mix_session.specs.declared.fault.Refusal.TheVariants.{NoSuchCommand, BadArgument, OutOfRange}
use Rattle.mix_session.specs.declared.keyword.command.CommandWord.{CommandWord}
use Rattle.mix_session.specs.declared.keyword.command.CommandWord.TheVariants as command
use Rattle.mix_session.specs.declared.keyword.command.BackWord.{BackWord}
use Rattle.mix_session.specs.declared.keyword.command.BackWord.TheVariants as back
use Rattle.mix_session.specs.declared.keyword.command.ForthWord.{ForthWord}
use Rattle.mix_session.specs.declared.keyword.command.ForthWord.TheVariants as forth
use Rattle.mix_session.specs.declared.request.Request.{Request}
use Rattle.mix_session.specs.declared.request.Request.TheVariants as ask
use Rattle.mix_machine.specs.declared.old.Change.TheVariants.{Break, Clear}

-- the most steps of one command
abbrev pub max_steps : ℕ
max_steps = 1000000

-- so many steps: from 1 to the most of one command
abbrev pub steps_of : ℕ → Result ℕ Refusal
steps_of n = do
  some ← from_one n
  up_to max_steps some

-- how many steps
abbrev pub steps_in : List ℕ → Result ℕ Refusal
steps_in word = do
  n ← number_in word
  steps_of n

-- `step`, `step N`, and `trace` in the same manner: how many steps
unfoldable pub count_request : List (List ℕ) → Result ℕ Refusal
count_request [] = Ok 1
count_request (word ∷ more) = do
  none ← no_word more
  steps_in word

-- steps until one of some conditions is met
abbrev pub run_until : NamesValue → WordValue → List ℕ → List (List ℕ) → Result Request Refusal
run_until names here word words = do
  n ← number_in word
  conditions ← conditions_in names here words
  steps ← steps_of n
  Ok (ask.RunUntil steps conditions)

-- the words after the number of `run`
abbrev pub run_after : NamesValue → WordValue → List ℕ → List (List ℕ) → Result Request Refusal
run_after names here word [] = do
  steps ← steps_in word
  Ok (ask.Run steps)
run_after names here word (next ∷ more) = if is_name next (codes "until") then run_until names here word more else Err BadArgument

-- `run N`, `run N until COND`
unfoldable pub run_request : NamesValue → WordValue → List (List ℕ) → Result Request Refusal
run_request names here [] = Err BadArgument
run_request names here (word ∷ more) = run_after names here word more

-- a request after which there is no word
abbrev pub request_alone : Request → List (List ℕ) → Result Request Refusal
request_alone request words = do
  none ← no_word words
  Ok request

-- how many changes, the only word left
abbrev pub amount_in : List ℕ → List (List ℕ) → Result ℕ Refusal
amount_in word more = do
  none ← no_word more
  n ← number_in word
  from_one n

-- how much is taken back: a keyword, or a number
abbrev pub back_by_word : NamesValue → WordValue → List ℕ → List (List ℕ) → Option BackWord → Result Request Refusal
back_by_word names here word more (Some back.All) = request_alone ask.BackAll more
back_by_word names here word more (Some back.Break) = request_alone ask.BackBreak more
back_by_word names here word more (Some back.Until) = do
  conditions ← conditions_in names here more
  Ok (ask.BackUntil conditions)
back_by_word names here word more None = do
  count ← amount_in word more
  Ok (ask.Back count)

-- `back N`, `back all`, `back break`, `back until COND`
unfoldable pub back_request : NamesValue → WordValue → List (List ℕ) → Result Request Refusal
back_request names here [] = Err BadArgument
back_request names here (word ∷ more) = back_by_word names here word more (keyword_named back_name all_backs word)

-- how much is done again: a keyword, or a number
abbrev pub forth_by_word : NamesValue → WordValue → List ℕ → List (List ℕ) → Option ForthWord → Result Request Refusal
forth_by_word names here word more (Some forth.All) = request_alone ask.ForthAll more
forth_by_word names here word more (Some forth.Until) = do
  conditions ← conditions_in names here more
  Ok (ask.ForthUntil conditions)
forth_by_word names here word more None = do
  count ← amount_in word more
  Ok (ask.Forth count)

-- `forth N`, `forth all`, `forth until COND`
unfoldable pub forth_request : NamesValue → WordValue → List (List ℕ) → Result Request Refusal
forth_request names here [] = Err BadArgument
forth_request names here (word ∷ more) = forth_by_word names here word more (keyword_named forth_name all_forths word)

-- `goto N`
unfoldable pub goto_request : List (List ℕ) → Result Request Refusal
goto_request words = do
  word ← one_word words
  n ← number_in word
  Ok (ask.Goto n)

-- the cell of the first word that the lines from a number on emit
abbrev pub line_place : ProgramValue → List (List ℕ) → Result ℕ Refusal
line_place program words = do
  word ← one_word words
  n ← number_in word
  number ← from_one n
  ok_or (cell_from program number) OutOfRange

-- the cell that a word alone names, or that of a line, after the word `line`
abbrev pub place_by : ProgramValue → WordValue → List ℕ → List (List ℕ) → Result ℕ Refusal
place_by program here word [] = place_named (names_of program) here word
place_by program here word (next ∷ more) = if is_name word (codes "line") then line_place program (next ∷ more) else Err BadArgument

-- the cell of a breakpoint: `E`, `line N`
unfoldable pub break_place : ProgramValue → WordValue → List (List ℕ) → Result ℕ Refusal
break_place program here [] = Err BadArgument
break_place program here (word ∷ more) = place_by program here word more

-- the words after a command's first; `break E`, `break line N`, and `clear` in the same manner
abbrev pub request_after : ProgramValue → WordValue → CommandWord → List (List ℕ) → Result Request Refusal
request_after program here command.Step words = do
  steps ← count_request words
  Ok (ask.Step steps)
request_after program here command.Trace words = do
  steps ← count_request words
  Ok (ask.Trace steps)
request_after program here command.Run words = run_request (names_of program) here words
request_after program here command.Back words = back_request (names_of program) here words
request_after program here command.Forth words = forth_request (names_of program) here words
request_after program here command.Goto words = goto_request words
request_after program here command.Set words = do
  change ← change_in (names_of program) here words
  Ok (ask.Change change)
request_after program here command.Break words = do
  place ← break_place program here words
  Ok (ask.Change (Break place))
request_after program here command.Clear words = do
  place ← break_place program here words
  Ok (ask.Change (Clear place))
request_after program here command.Show words = do
  topic ← topic_in (names_of program) here words
  Ok (ask.Show topic)

-- the words of a line
unfoldable pub request_of_words : ProgramValue → WordValue → List (List ℕ) → Result Request Refusal
request_of_words program here [] = Ok ask.Nothing
request_of_words program here (word ∷ more) = do
  keyword ← ok_or (keyword_named command_name all_commands word) NoSuchCommand
  request_after program here keyword more

-- a line: a blank one, and one that begins with an asterisk, asks for nothing
unfoldable pub request_of : ProgramValue → WordValue → List ℕ → Result Request Refusal
request_of program here line = if is_comment line then Ok ask.Nothing else request_of_words program here (words line)
