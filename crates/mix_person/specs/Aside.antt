-- What is only said of a line that a person types: no line of a script is executed for it.
use Rattle.std.specs.Prelude.{ℕ, ◌-◌, ◌&&◌, ◌||◌, List, [], ◌∷◌, Bool, false, codes, is_some, length, Option, None, Some, if◌then◌else◌}
use Rattle.std.specs.Str.{str_eq_ignore_ascii_case}
use Rattle.mix_lines.specs.Lines.{words}
use Rattle.mix_machine.specs.Prelude.{is_halt_next, WorldState}
use Rattle.mix_machine.specs.declared.old.Change.{Change}
use Rattle.mix_session.specs.Prelude.{world_at, change_numbered, is_step, SessionState, Timeline}
use Rattle.mix_views.specs.View.{is_view}
use Rattle.mix_person.specs.Person.{is_one_of, is_register}

-- whether a change is a step of HLT, from this machine
abbrev pub is_halt : Option Change → WorldState → Bool
is_halt None before = false
is_halt (Some change) before = is_step change && is_halt_next before

-- whether the program has halted: the last change that is done is a step of HLT
abbrev pub is_halted : Timeline → Bool
is_halted t = is_halt (change_numbered t (length t.changes)) (world_at t (length t.changes - 1))

-- whether the line of a script that a person's line stands for asks for steps where the person said no number: one, or as many as one command may do
abbrev pub goes_on : List (List ℕ) → Bool
goes_on [] = false
goes_on (command ∷ []) = is_one_of (codes "step" ∷ codes "trace" ∷ []) command
goes_on (command ∷ count ∷ rest) = str_eq_ignore_ascii_case command (codes "run") && str_eq_ignore_ascii_case count (codes "1000000")

-- the part of the machine that a line `show PART` shows, of a person's alone
abbrev pub is_shown : List ℕ → Bool
is_shown name = is_register name || is_one_of (codes "over" ∷ codes "cmp" ∷ codes "loc" ∷ []) name

abbrev pub part_in : List (List ℕ) → Option (List ℕ)
part_in [] = None
part_in (command ∷ []) = None
part_in (command ∷ name ∷ []) = if str_eq_ignore_ascii_case command (codes "show") && is_shown name then Some name else None
part_in (command ∷ name ∷ other ∷ rest) = None

-- whether something is only said of the line of a script that a person's line stands for: the machine stays, and nothing else is written
unfoldable pub is_aside : SessionState → List ℕ → Bool
is_aside s typed = (goes_on (words typed) && is_halted s.timeline) || is_view s (words typed) || is_some (part_in (words typed))
