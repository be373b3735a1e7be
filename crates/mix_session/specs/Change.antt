-- The line of a change: its number, where it was done, what it did, how long it took, and what it altered.
use Rattle.std.specs.Prelude.{ℕ, ◌+◌, ◌-◌, List, [], ◌∷◌, ◌++◌, codes, take, get_or, length, unwrap_or, nat_lt, Bool, true, false, Option, None, Some, if◌then◌else◌}
use Rattle.std.specs.Fmt.{decimal}
use Rattle.undo_core.specs.Replay.{replay}
use Rattle.mix_word.specs.Prelude.{instruction_text, name_of_register, location_text}
use Rattle.mix_machine.specs.Prelude.{WorldState, cell_of, does}
use Rattle.mix_machine.specs.declared.old.Change.{Change}
use Rattle.mix_machine.specs.declared.old.Change.TheVariants.{Step, SetReg, SetCell, SetLoc, SetOver, SetCmp, Break, Clear}
use Rattle.mix_session.specs.Altered.{altered_by}
use Rattle.mix_session.specs.Condition.{is_reached}
use Rattle.mix_session.specs.Columns.{left_in, right_in}
use Rattle.mix_session.specs.Differences.{columns_text, differences}
use Rattle.mix_session.specs.Each.{texts}
use Rattle.mix_session.specs.Timeline.{Timeline, world_of}
use Rattle.mix_session.specs.declared.condition.Condition.{Condition}

-- all changes, those done and those ahead
abbrev pub all_changes : Timeline → List Change
all_changes t = t.changes ++ t.ahead

-- the machine after the first n of all changes (where one of them were a fault: the first state)
unfoldable pub world_at : Timeline → ℕ → WorldState
world_at t n = unwrap_or (replay does t.first (take n (all_changes t))) t.first

-- the change of a number, counted from 1
abbrev pub change_at : Timeline → ℕ → Change
change_at t n = get_or (all_changes t) (n - 1) Step

-- what was done: of a step, the instruction at the location
abbrev pub change_text : WorldState → Change → List ℕ
change_text w Step = if nat_lt w.loc 4000 then instruction_text (cell_of w w.loc) else []
change_text w (SetReg r v) = codes "set " ++ name_of_register r
change_text w (SetCell p v) = codes "set cell " ++ location_text p
change_text w (SetLoc p) = codes "set loc"
change_text w (SetOver b) = codes "set over"
change_text w (SetCmp c) = codes "set cmp"
change_text w (Break p) = codes "break " ++ location_text p
change_text w (Clear p) = codes "clear " ++ location_text p

-- what was altered
abbrev pub altered_text : Change → WorldState → WorldState → List ℕ
altered_text change v w = columns_text v w (altered_by change v w)

-- the columns of a line before what was altered
unfoldable pub change_columns : ℕ → Change → WorldState → ℕ → List ℕ
change_columns n change v time =
    right_in 7 (decimal n) ++ codes "  " ++ location_text v.loc ++ codes "  " ++ left_in 17 (change_text v change) ++ codes "  " ++ right_in 3 (decimal time) ++ codes "u"

-- a change of a number, from one state to another, without the end of its line
unfoldable pub change_front : ℕ → Change → WorldState → WorldState → List ℕ
change_front n change v w = change_columns n change v (w.clock - v.clock) ++ altered_text change v w

-- its line
unfoldable pub change_line : ℕ → Change → WorldState → WorldState → List ℕ
change_line n change v w = change_front n change v w ++ 10 ∷ []

-- the line of the change of a number, counted from 1
abbrev pub change_line_at : Timeline → ℕ → List ℕ
change_line_at t n = change_line n (change_at t n) (world_at t (n - 1)) (world_at t n)

-- the lines of the last n changes that are done, or of all where there are fewer
abbrev pub last_lines : Timeline → ℕ → List ℕ
last_lines t n = texts (change_line_at t) (length t.changes - n + 1) (length t.changes + 1)

-- whether a change from one state to another is chosen: each is, or those that meet a condition on the two states
abbrev pub is_chosen : Option Condition → WorldState → WorldState → Bool
is_chosen None v w = true
is_chosen (Some condition) v w = is_reached condition false v w w

-- the line of the change of a number, if it is chosen
abbrev pub chosen_line_at : Option Condition → Timeline → ℕ → List ℕ
chosen_line_at chosen t n = if is_chosen chosen (world_at t (n - 1)) (world_at t n) then change_line_at t n else []

-- the lines of the changes done that meet a condition on the states before and after them
abbrev pub writes_text : Condition → Timeline → List ℕ
writes_text condition t = texts (chosen_line_at (Some condition) t) 1 (length t.changes + 1)

-- the reply of `show diff`: what differs between the state after the first n changes and now
unfoldable pub diff_text : Timeline → ℕ → List ℕ
diff_text t n =
    codes "diff " ++ decimal n ++ codes " to " ++ decimal (length t.changes) ++ 10 ∷ [] ++ differences (world_at t n) (world_of t)
