-- The points of a talk: cells where the runs of a person stop. They stand beside the machine, so no change sets one, and none that is taken back takes
-- one away. A run with points stands for a line of a script that waits for their locations.
use Rattle.std.specs.Prelude.{ℕ, ◌==◌, List, [], ◌∷◌, ◌++◌, Bool, false, codes, drop, is_ok, is_some, option_and_then, Option, None, Some, Result, Ok, Err, if◌then◌else◌}
use Rattle.std.specs.Fmt.{decimal}
use Rattle.std.specs.List.{list_any}
use Rattle.std.specs.Result.{result_ok}
use Rattle.std.specs.Str.{str_eq_ignore_ascii_case}
use Rattle.mix_lines.specs.Lines.{lines, words}
use Rattle.mix_word.specs.declared.register.Reg.TheVariants as reg
use Rattle.mix_machine.specs.declared.old.Change.{Change}
use Rattle.mix_machine.specs.World.{register_of}
use Rattle.mix_machine.specs.declared.old.Change.TheVariants as change
use Rattle.mix_session.specs.Prelude.{condition_at, SessionState, request_in, world_of}
use Rattle.mix_session.specs.declared.condition.Condition.{Condition}
use Rattle.mix_session.specs.declared.condition.Condition.TheVariants.{Alters, At, Conflicts}
use Rattle.mix_session.specs.declared.fault.Refusal.{Refusal}
use Rattle.mix_session.specs.declared.request.Request.{Request}
use Rattle.mix_session.specs.declared.request.Request.TheVariants as ask
use Rattle.mix_run.specs.declared.talk.asked.Point.{Point}
use Rattle.mix_run.specs.declared.talk.asked.Point.TheVariants as point

-- ---- points are a text: of each a line that names its location as after `until`, as `loc LOOP`; where the program has no such location any more, it
-- is of no account

-- the cell that a line names
abbrev pub cell_of : Condition → Option ℕ
cell_of (At place) = Some place
cell_of (Alters part) = None
cell_of Conflicts = None

abbrev pub cell_named : SessionState → List ℕ → Option ℕ
cell_named s line = option_and_then cell_of (result_ok (condition_at s line))

-- a line as what is waited for besides; or as a point that is left, when those of a cell are taken away
abbrev pub is_that : ℕ → Option ℕ → Bool
is_that place None = false
is_that place (Some other) = other == place

abbrev pub piece : SessionState → Option ℕ → List ℕ → List ℕ
piece s None line = if is_some (cell_named s line) then codes " or " ++ line else []
piece s (Some place) line = if is_that place (cell_named s line) then [] else line ++ 10 ∷ []

abbrev pub pieces : SessionState → Option ℕ → List (List ℕ) → List ℕ
pieces s taken [] = []
pieces s taken (line ∷ rest) = piece s taken line ++ pieces s taken rest

-- ---- what the points make of a line of a script: a run waits for them too, and `back break` goes back to one of them

-- ` or loc LOOP or loc 5` after no condition
abbrev pub until_first : List ℕ → List ℕ
until_first [] = []
until_first (byte ∷ others) = codes " until" ++ drop 3 (byte ∷ others)

abbrev pub back_to : List ℕ → List ℕ → List ℕ
back_to [] typed = typed
back_to (byte ∷ others) typed = codes "back" ++ until_first (byte ∷ others)

abbrev pub stopped_by : Result Request Refusal → List ℕ → List ℕ → List ℕ
stopped_by (Ok (ask.Run n)) others typed = typed ++ until_first others
stopped_by (Ok (ask.RunUntil n conditions)) others typed = typed ++ others
stopped_by (Ok ask.BackBreak) others typed = back_to others typed
stopped_by (Ok request) others typed = typed
stopped_by (Err refusal) others typed = typed

unfoldable pub with_points : SessionState → List ℕ → List ℕ → List ℕ
with_points s points typed = stopped_by (request_in s typed) (pieces s None (lines points)) typed

-- whether a run can wait for what is watched and for these points, which are then no more than eight conditions
unfoldable pub can_wait : SessionState → List ℕ → List ℕ → Bool
can_wait s watch points = is_ok (request_in s (with_points s points (codes "run 1000000" ++ watch)))

-- ---- what a line asks of the points: a person's `break` sets one, and `clear` takes one away, or all of them; a symbol comes before the word `all`

abbrev pub is_clear_all : List (List ℕ) → Bool
is_clear_all (word ∷ all ∷ []) = if str_eq_ignore_ascii_case word (codes "clear") then str_eq_ignore_ascii_case all (codes "all") else false
is_clear_all other = false

abbrev pub point_of : Change → Point
point_of (change.Break place) = point.Set place
point_of (change.Clear place) = point.Clear place
point_of other = point.Other

abbrev pub point_asked : Result Request Refusal → List (List ℕ) → Point
point_asked (Ok (ask.Change change)) words = point_of change
point_asked (Ok request) words = point.Other
point_asked (Err refusal) words = if is_clear_all words then point.ClearAll else point.Other

unfoldable pub point_in : SessionState → List ℕ → Point
point_in s typed = point_asked (request_in s typed) (words typed)

-- the location of a point as it was said, so that it follows its symbol; but as a number, where it is that of a line, or depends on the location
abbrev pub is_asterisk : ℕ → Bool
is_asterisk byte = byte == 42

abbrev pub location_said : List (List ℕ) → ℕ → List ℕ
location_said (command ∷ word ∷ []) place = if list_any is_asterisk word then decimal place else word
location_said other place = decimal place

-- the points, with one that stands last
abbrev pub with_point : SessionState → List ℕ → ℕ → List ℕ → List ℕ
with_point s typed place points =
    pieces s (Some place) (lines points) ++ codes "loc " ++ location_said (words typed) place ++ 10 ∷ []

-- one more than a run can wait for is not set
abbrev pub point_if : SessionState → List ℕ → ℕ → List ℕ → List ℕ → Option (List ℕ)
point_if s typed place watch points = let more = with_point s typed place points in if can_wait s watch more then Some more else None

-- ---- `finish` runs up to where the subroutine returns that was entered: the location that rJ has

abbrev pub is_finish : List (List ℕ) → Bool
is_finish (word ∷ []) = str_eq_ignore_ascii_case word (codes "finish")
is_finish other = false

unfoldable pub finished : SessionState → List ℕ → List ℕ
finished s typed =
    if is_finish (words typed) then codes "run 1000000 until loc " ++ decimal (register_of (world_of s.timeline) reg.J).magnitude else typed
