-- Which line ends a talk, and the session after some lines of a script.
use Rattle.std.specs.Prelude.{Bool, true, false, ℕ, List, [], ◌∷◌}
use Rattle.mix_lines.specs.Lines.{words}
use Rattle.mix_session.specs.Prelude.{SessionState, effect_in, after}
use Rattle.mix_person.specs.Person.{kind_of}
use Rattle.mix_person.specs.declared.person.Line.{Line}
use Rattle.mix_person.specs.declared.person.Line.TheVariants as line_kind
use Rattle.mix_run.specs.declared.talk.aside.Talker.{Talker}
use Rattle.mix_run.specs.declared.talk.aside.Talker.TheVariants.{Program, Person}

-- whether a line of this kind ends the talk; a program's line never does
abbrev pub is_end : Line → Bool
is_end line_kind.Quit = true
is_end other = false

abbrev pub is_quit : Talker → List ℕ → Bool
is_quit Program line = false
is_quit Person line = is_end (kind_of (words line))

-- the session after some lines of a script, executed one after the other
abbrev pub after_lines : SessionState → List (List ℕ) → SessionState
after_lines s [] = s
after_lines s (line ∷ rest) = after_lines (record s { timeline = after (effect_in s line) }) rest
