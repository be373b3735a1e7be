-- The keywords of commands: the name of each, and the keyword that a word names.
use Rattle.std.specs.Prelude.{ℕ, List, [], ◌∷◌, ◌++◌, map, Option, Bool, true, false, codes, find}
use Rattle.std.specs.Str.{str_eq_ignore_ascii_case}
use Rattle.mix_word.specs.declared.word.Cmp.{Cmp}
use Rattle.mix_word.specs.Register.{all_registers, name_of_register}
use Rattle.mix_word.specs.declared.word.Cmp.TheVariants.{Less, Equal, Greater}
use Rattle.mix_session.specs.declared.keyword.command.CommandWord.{CommandWord}
use Rattle.mix_session.specs.declared.keyword.command.CommandWord.TheVariants as command
use Rattle.mix_session.specs.declared.keyword.command.BackWord.{BackWord}
use Rattle.mix_session.specs.declared.keyword.command.BackWord.TheVariants as back
use Rattle.mix_session.specs.declared.keyword.command.ForthWord.{ForthWord}
use Rattle.mix_session.specs.declared.keyword.command.ForthWord.TheVariants as forth
use Rattle.mix_session.specs.declared.keyword.target.SetWord.{SetWord}
use Rattle.mix_session.specs.declared.keyword.target.SetWord.TheVariants.{Register, Cell, Location, Toggle, Indicator}
use Rattle.mix_session.specs.declared.keyword.target.UntilWord.{UntilWord}
use Rattle.mix_session.specs.declared.keyword.target.UntilWord.TheVariants as until

-- whether a word is this name, in capitals or small letters
abbrev pub is_name : List ℕ → List ℕ → Bool
is_name word name = str_eq_ignore_ascii_case word name

-- of the keywords that may stand at a place, the one that a word names
abbrev pub keyword_named : {K : Type 0} → (K → List ℕ) → List K → List ℕ → Option K
keyword_named name_of all word = find (λ keyword. is_name word (name_of keyword)) all

-- the first word of a command
abbrev pub command_name : CommandWord → List ℕ
command_name command.Step = codes "step"
command_name command.Run = codes "run"
command_name command.Back = codes "back"
command_name command.Forth = codes "forth"
command_name command.Goto = codes "goto"
command_name command.Set = codes "set"
command_name command.Break = codes "break"
command_name command.Clear = codes "clear"
command_name command.Show = codes "show"
command_name command.Trace = codes "trace"

abbrev pub all_commands : List CommandWord
all_commands =
    command.Step ∷ command.Run ∷ command.Back ∷ command.Forth ∷ command.Goto ∷ command.Set ∷ command.Break ∷ command.Clear ∷ command.Show ∷ command.Trace ∷ []

-- what may stand after `back` in place of a number
abbrev pub back_name : BackWord → List ℕ
back_name back.All = codes "all"
back_name back.Break = codes "break"
back_name back.Until = codes "until"

abbrev pub all_backs : List BackWord
all_backs = back.All ∷ back.Break ∷ back.Until ∷ []

-- what may stand after `forth` in place of a number
abbrev pub forth_name : ForthWord → List ℕ
forth_name forth.All = codes "all"
forth_name forth.Until = codes "until"

abbrev pub all_forths : List ForthWord
all_forths = forth.All ∷ forth.Until ∷ []

-- what `set` may set
abbrev pub set_name : SetWord → List ℕ
set_name (Register r) = name_of_register r
set_name Cell = codes "cell"
set_name Location = codes "loc"
set_name Toggle = codes "over"
set_name Indicator = codes "cmp"

abbrev pub all_sets : List SetWord
all_sets = map Register all_registers ++ Cell ∷ Location ∷ Toggle ∷ Indicator ∷ []

-- what a command may wait for: a unit, a conflict, or what `set` names
abbrev pub until_name : UntilWord → List ℕ
until_name (until.Set word) = set_name word
until_name until.Unit = codes "unit"
until_name until.Conflict = codes "conflict"

abbrev pub all_untils : List UntilWord
all_untils = map until.Set all_sets ++ until.Unit ∷ until.Conflict ∷ []

-- the overflow toggle
abbrev pub toggle_name : Bool → List ℕ
toggle_name true = codes "on"
toggle_name false = codes "off"

abbrev pub all_toggles : List Bool
all_toggles = true ∷ false ∷ []

-- the comparison indicator
abbrev pub indicator_name : Cmp → List ℕ
indicator_name Less = codes "L"
indicator_name Equal = codes "E"
indicator_name Greater = codes "G"

abbrev pub all_indicators : List Cmp
all_indicators = Less ∷ Equal ∷ Greater ∷ []
