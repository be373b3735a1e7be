-- What a client asks of a session by values and not by a line: a change by its number, with what it conflicts, a condition, and what a part is set
-- to. Names are those of the program, and the asterisk stands for the location, as in a script.
use Rattle.std.specs.Prelude.{ℕ, zero, suc, ◌+◌, List, length, Option, None, Result, nat_lt, slice_get, if◌then◌else◌}
use Rattle.mix_lines.specs.Lines.{words}
use Rattle.mix_word.specs.Word.{plus}
use Rattle.mix_machine.specs.declared.old.Change.{Change}
use Rattle.mix_machine.specs.declared.part.Part.{Part}
use Rattle.mix_machine.specs.declared.transfers.Conflict.{Conflict}
use Rattle.mix_session.specs.Change.{all_changes}
use Rattle.mix_session.specs.Conflicts.{conflict_at}
use Rattle.mix_session.specs.Names.{names_of}
use Rattle.mix_session.specs.Setting.{condition_in, setting_of}
use Rattle.mix_session.specs.Session.{SessionState}
use Rattle.mix_session.specs.Timeline.{Timeline, world_of}
use Rattle.mix_session.specs.declared.condition.Condition.{Condition}
use Rattle.mix_session.specs.declared.fault.Refusal.{Refusal}

-- the change of a number, counted from 1, of those done and those ahead, if there is one
abbrev pub change_numbered : Timeline → ℕ → Option Change
change_numbered t zero = None
change_numbered t (suc n) = slice_get (all_changes t) n

-- with which cell of which transfer under way before it the change after the first n of all conflicts, if there is one and it does
abbrev pub conflict_after : Timeline → ℕ → Option Conflict
conflict_after t n = if nat_lt n (length (all_changes t)) then conflict_at t (n + 1) else None

-- the condition that a text names, as after `until`
abbrev pub condition_at : SessionState → List ℕ → Result Condition Refusal
condition_at s text = condition_in (names_of s.program) (plus (world_of s.timeline).loc) (words text)

-- the change that sets a part to what a text says
abbrev pub setting_at : SessionState → Part → List ℕ → Result Change Refusal
setting_at s part text = setting_of (names_of s.program) (plus (world_of s.timeline).loc) part (words text)
