-- What a typed line does, and which lines read a file: a line `source FILE` stands for the lines of the file, each as if it had been typed.
use Rattle.std.specs.Prelude.{◌≡◌, ◌⊎◌, ℕ, Bool, true, false, List, [], Option, None, Some, Result, Ok, Err, nat_lt, length, if◌then◌else◌}
use Rattle.std.specs.List.{list_any}
use Rattle.mix_lines.specs.Lines.{lines, words}
use Rattle.mix_run.specs.Opening.{Files}
use Rattle.mix_run.specs.Output.{max_script_bytes}
use Rattle.mix_person.specs.Person.{kind_of}
use Rattle.mix_person.specs.declared.person.Line.{Line}
use Rattle.mix_run.specs.declared.reason.Reason.{Reason}
use Rattle.mix_person.specs.declared.person.Line.TheVariants as line_kind
use Rattle.mix_run.specs.declared.talk.aside.Talker.{Talker}
use Rattle.mix_run.specs.declared.talk.heard.Act.{Act}
use Rattle.mix_run.specs.declared.talk.heard.Act.TheVariants as act
use Rattle.mix_run.specs.declared.talk.aside.Talker.TheVariants.{Program, Person}

-- the lines of a file: none, if it can't be opened, or has more bytes than a script may have
abbrev pub lines_of : Result (List ℕ) Reason → List (List ℕ)
lines_of (Err reason) = []
lines_of (Ok text) = if nat_lt max_script_bytes (length text) then [] else lines text

-- the lines of the file of a name; without a name there are none
abbrev pub lines_under : Files → Option (List ℕ) → List (List ℕ)
lines_under all None = []
lines_under all (Some name) = lines_of (all name)

-- what a typed line of this kind does
abbrev pub act_by : Line → Act
act_by line_kind.Save = act.Save
act_by line_kind.SaveOver = act.Save
act_by line_kind.Source = act.Source
act_by line_kind.Reload = act.Reload
act_by other = act.Answer

-- a program neither saves nor sources a file nor reloads; nor does a line of a file that is sourced, which is answered
abbrev pub act_of : Talker → List ℕ → Act
act_of Program line = act.Answer
act_of Person line = act_by (kind_of (words line))

-- whether a line reads a file
abbrev pub reads_by : Act → Bool
reads_by act.Answer = false
reads_by act.Save = false
reads_by act.Source = true
reads_by act.Reload = true

abbrev pub reads_file : Talker → List ℕ → Bool
reads_file talker line = reads_by (act_of talker line)

-- It is known what these lines read: what the files hold is known, or none of the lines reads one.
abbrev pub Knows : Option Files → Files → Talker → List (List ℕ) → Type 0
Knows held all talker typed = (held ≡ Some all) ⊎ (list_any (reads_file talker) typed ≡ false)
