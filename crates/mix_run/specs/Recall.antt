-- What a talk recalls of a person's lines, and the lines of a script that the next one then stands for.
use Rattle.std.specs.Prelude.{ℕ, ◌||◌, List, [], ◌∷◌, ◌++◌, codes, is_ok, is_some, Option, None, Some, Result, Ok, Err, if◌then◌else◌}
use Rattle.mix_lines.specs.Lines.{lines, words}
use Rattle.mix_session.specs.Prelude.{names_of, SessionState, request_in}
use Rattle.mix_session.specs.declared.fault.Refusal.{Refusal}
use Rattle.mix_session.specs.declared.request.Request.{Request}
use Rattle.mix_session.specs.declared.request.Request.TheVariants as ask
use Rattle.mix_person.specs.Aside.{is_aside, part_in}
use Rattle.mix_person.specs.Person.{kind_of, person_line, watched_in, condition_in}
use Rattle.mix_run.specs.Points.{can_wait, finished, pieces, point_if, point_in, with_points}
use Rattle.mix_run.specs.declared.talk.asked.Point.{Point}
use Rattle.mix_run.specs.declared.talk.asked.Point.TheVariants as point
use Rattle.mix_run.specs.declared.talk.aside.After.{After}
use Rattle.mix_run.specs.declared.talk.aside.After.TheVariants as after
use Rattle.mix_run.specs.declared.talk.aside.Talker.{Talker}
use Rattle.mix_run.specs.declared.talk.aside.Talker.TheVariants.{Program, Person}
use Rattle.mix_person.specs.declared.person.Line.{Line}
use Rattle.mix_person.specs.declared.person.Line.TheVariants as line_kind

-- the line of a script that a blank line stands for: that of the line before it, or an empty one, where that was no command. And what is watched, from
-- its `until` on; empty, where nothing is. And the points. And the lines of a script that show what is displayed after each stop. And the script of what
-- was done: the lines that may have changed the machine
pub record RecallState : Type 0 where
  pub again : List ℕ
  pub watch : List ℕ
  pub points : List ℕ
  pub displays : List ℕ
  pub done : List ℕ

-- nothing yet
abbrev pub nothing : RecallState
nothing = record { again = []; watch = []; points = []; displays = []; done = [] }

-- what a request leads to: a stop after changes that were done; another stop; a change without a stop; or nothing
abbrev pub after_request : Request → After
after_request (ask.Step n) = after.Done
after_request (ask.Back n) = after.Stop
after_request ask.BackAll = after.Stop
after_request ask.BackBreak = after.Stop
after_request (ask.BackUntil conditions) = after.Stop
after_request (ask.Trace n) = after.Stop
after_request (ask.Run n) = after.Done
after_request (ask.RunUntil n conditions) = after.Stop
after_request (ask.Forth n) = after.Done
after_request ask.ForthAll = after.Done
after_request (ask.ForthUntil conditions) = after.Stop
after_request (ask.Goto n) = after.Stop
after_request ask.Nothing = after.Nothing
after_request (ask.Change change) = after.Changed
after_request (ask.Show topic) = after.Nothing

-- the same of a line, whose words may be refused
abbrev pub after_read : Result Request Refusal → After
after_read (Ok request) = after_request request
after_read (Err refusal) = after.Refused

-- the script of what was done, and one line more
abbrev pub with_done : List ℕ → RecallState → RecallState
with_done typed r = record r { done = r.done ++ (typed ++ 10 ∷ []) }

-- what is recalled when a line of a script was executed
abbrev pub recalled_after : After → List ℕ → RecallState → RecallState
recalled_after after.Done typed r = with_done typed r
recalled_after after.Stop typed r = with_done typed r
recalled_after after.Changed typed r = with_done typed r
recalled_after after.Nothing typed r = r
recalled_after after.Refused typed r = r

-- what is watched after a line that asks for more: that from its `until` on; after what is watched already, the word `or` and what follows `until`
abbrev pub watched_after : List ℕ → List ℕ → List ℕ
watched_after [] typed = watched_in typed
watched_after (byte ∷ watch) typed = byte ∷ watch ++ codes " or" ++ condition_in typed

-- the same, unless there are then more conditions than one command may wait for
abbrev pub watched_more : SessionState → List ℕ → RecallState → RecallState
watched_more s watch r = if can_wait s watch r.points then record r { watch = watch } else r

abbrev pub watched_by : SessionState → Request → List ℕ → RecallState → RecallState
watched_by s (ask.RunUntil n conditions) typed r = watched_more s (watched_after r.watch typed) r
watched_by s other typed r = r

-- and what is recalled: the conditions must be such as one command may wait for
abbrev pub recalled_watch : SessionState → Result Request Refusal → List ℕ → RecallState → RecallState
recalled_watch s (Ok request) typed r = watched_by s request typed r
recalled_watch s (Err refusal) typed r = r

-- what is displayed after a line that asks for more: that must be there to be shown
abbrev pub recalled_display : SessionState → List ℕ → RecallState → RecallState
recalled_display s typed r =
    if is_some (part_in (words typed)) || is_ok (request_in s typed) then record r { displays = r.displays ++ (typed ++ 10 ∷ []) } else r

-- what is recalled of a line of a script that is executed
abbrev pub recalled_line : SessionState → List ℕ → RecallState → RecallState
recalled_line s line r = recalled_after (after_read (request_in s line)) line r

-- what is recalled of what is asked of the points, or else of the line of a script that a command stands for with them
abbrev pub pointed : Option (List ℕ) → RecallState → RecallState
pointed None r = r
pointed (Some points) r = record r { points = points }

abbrev pub recalled_asked : Point → SessionState → List ℕ → RecallState → RecallState
recalled_asked (point.Set place) s typed r = pointed (point_if s typed place r.watch r.points) r
recalled_asked (point.Clear place) s typed r = record r { points = pieces s (Some place) (lines r.points) }
recalled_asked point.ClearAll s typed r = record r { points = [] }
recalled_asked point.Other s typed r = recalled_line s (with_points s r.points typed) r

-- what is recalled of a command: nothing, if something is only said
abbrev pub recalled_command : SessionState → List ℕ → RecallState → RecallState
recalled_command s typed r = if is_aside s typed then r else recalled_asked (point_in s typed) s typed r

-- what is recalled when a person's line was answered; a blank line repeats the last line alone, and only a command
abbrev pub recalled_by : SessionState → Line → List ℕ → RecallState → RecallState
recalled_by s line_kind.Command typed r = record (recalled_command s typed r) { again = typed }
recalled_by s line_kind.Help typed r = record r { again = [] }
recalled_by s line_kind.Listing typed r = record r { again = [] }
recalled_by s line_kind.Watch typed r = record (recalled_watch s (request_in s typed) typed r) { again = [] }
recalled_by s line_kind.Delete typed r = record r { again = []; watch = [] }
recalled_by s line_kind.Display typed r = record (recalled_display s typed r) { again = [] }
recalled_by s line_kind.Undisplay typed r = record r { again = []; displays = [] }
recalled_by s line_kind.Save typed r = record r { again = [] }
recalled_by s line_kind.SaveOver typed r = record r { again = [] }
recalled_by s line_kind.Source typed r = record r { again = [] }
recalled_by s line_kind.Reload typed r = record r { again = [] }
recalled_by s line_kind.Quit typed r = r

-- the line of a script that a person's line is read as
abbrev pub read_as : SessionState → RecallState → List ℕ → List ℕ
read_as s r line = finished s (person_line (names_of s.program) r.again r.watch line)

abbrev pub recalled : SessionState → Talker → RecallState → List ℕ → RecallState
recalled s Program r line = r
recalled s Person r line = recalled_by s (kind_of (words line)) (read_as s r line) r

-- the lines of a script that a line stands for: a program's stands for itself; help is no command, nor is a listing of the source, what is watched,
-- displayed, or the end of a talk; nor is a line of a file that saves, sources another one or reloads, which is refused; nor is a line, of which
-- something is only said, or which is about the points
abbrev pub executed : Point → List ℕ → List (List ℕ)
executed (point.Set place) line = []
executed (point.Clear place) line = []
executed point.ClearAll line = []
executed point.Other line = line ∷ []

abbrev pub meant_command : SessionState → List ℕ → List ℕ → List (List ℕ)
meant_command s points typed = if is_aside s typed then [] else executed (point_in s typed) (with_points s points typed)

abbrev pub meant_by : SessionState → List ℕ → Line → List ℕ → List (List ℕ)
meant_by s points line_kind.Command typed = meant_command s points typed
meant_by s points line_kind.Help typed = []
meant_by s points line_kind.Listing typed = []
meant_by s points line_kind.Watch typed = []
meant_by s points line_kind.Delete typed = []
meant_by s points line_kind.Display typed = []
meant_by s points line_kind.Undisplay typed = []
meant_by s points line_kind.Save typed = []
meant_by s points line_kind.SaveOver typed = []
meant_by s points line_kind.Source typed = []
meant_by s points line_kind.Reload typed = []
meant_by s points line_kind.Quit typed = []

abbrev pub meant : SessionState → Talker → RecallState → List ℕ → List (List ℕ)
meant s Program r line = line ∷ []
meant s Person r line = meant_by s r.points (kind_of (words line)) (read_as s r line)
