-- What `show counts` writes: how often each instruction was executed, and how long that took.
use Rattle.std.specs.Prelude.{ℕ, zero, suc, ◌+◌, ◌-◌, ◌==◌, ◌&&◌, not, Bool, true, false, List, [], ◌∷◌, ◌++◌, codes, length, Option, Some, None, if◌then◌else◌}
use Rattle.std.specs.Fmt.{decimal}
use Rattle.mix_word.specs.Text.{location_text}
use Rattle.mix_machine.specs.declared.old.Change.{Change}
use Rattle.mix_machine.specs.declared.old.Change.TheVariants.{Step}
use Rattle.mix_machine.specs.World.{WorldState}
use Rattle.mixal_asm.specs.Prelude.{SourceValue, ProgramValue, source_at, is_instruction}
use Rattle.mix_session.specs.Change.{world_at, change_at}
use Rattle.mix_session.specs.Columns.{right_in}
use Rattle.mix_session.specs.Each.{texts}
use Rattle.mix_session.specs.ShowCode.{is_overwritten, line_text}
use Rattle.mix_session.specs.Timeline.{Timeline, world_of}
use Rattle.mix_session.specs.declared.tally.Tally.{Tally}

abbrev pub is_step : Change → Bool
is_step Step = true
is_step other = false

-- the sum of a function of the first n numbers
abbrev pub sum_below : ℕ → (ℕ → ℕ) → ℕ
sum_below zero f = 0
sum_below (suc n) f = sum_below n f + f n

-- a number where a test is true, and 0 elsewhere
abbrev pub number_if : Bool → ℕ → ℕ
number_if true n = n
number_if false n = 0

-- how long the change after the first n took
abbrev pub time_of : Timeline → ℕ → ℕ
time_of t n = (world_at t (suc n)).clock - (world_at t n).clock

-- whether the change after the first n is a step, and whether it is one at a place
abbrev pub is_step_after : Timeline → ℕ → Bool
is_step_after t n = is_step (change_at t (suc n))

abbrev pub is_step_at : Timeline → ℕ → ℕ → Bool
is_step_at t p n = is_step_after t n && (world_at t n).loc == p

-- how many of the changes done a test is true of, and how long those took
abbrev pub tally_of : Timeline → (ℕ → Bool) → Tally
tally_of t is_counted = record {
  count = sum_below (length t.changes) (λ n. number_if (is_counted n) 1);
  time = sum_below (length t.changes) (λ n. number_if (is_counted n) (time_of t n));
}

-- how often the instruction at a place was executed by the changes done, and how long that took; and the same of all places
abbrev pub tally_at : Timeline → ℕ → Tally
tally_at t p = tally_of t (is_step_at t p)

abbrev pub tally_of_all : Timeline → Tally
tally_of_all t = tally_of t (is_step_after t)

-- a number of times and a time, each right in ten places
unfoldable pub tally_columns : Tally → List ℕ
tally_columns tally = right_in 10 (decimal tally.count) ++ codes "  " ++ right_in 10 (decimal tally.time) ++ codes "  "

-- the line of the source, as `show code` has it
abbrev pub source_text : Bool → Option SourceValue → List ℕ
source_text overwritten None = []
source_text overwritten (Some source) = codes "  " ++ line_text overwritten source

-- whether a line is an instruction's, if there is one
abbrev pub is_code : Option SourceValue → Bool
is_code None = false
is_code (Some source) = is_instruction source

-- the line of a cell: how often and how long, its location, the line of the source
unfoldable pub tally_line : ProgramValue → WorldState → Tally → ℕ → List ℕ
tally_line program w tally p =
    tally_columns tally ++ location_text p ++ source_text (is_overwritten program w p) (source_at program p) ++ 10 ∷ []

-- a cell that was executed, or whose line is an instruction's; nothing of another
abbrev pub count_line : ProgramValue → WorldState → Tally → ℕ → List ℕ
count_line program w tally p =
    if tally.count == 0 && not (is_code (source_at program p)) then [] else tally_line program w tally p

-- the last line: the sums
unfoldable pub total_line : Tally → List ℕ
total_line tally = tally_columns tally ++ codes "total" ++ 10 ∷ []

-- the reply of `show counts`
unfoldable pub counts_text : ProgramValue → Timeline → List ℕ
counts_text program t = texts (λ p. count_line program (world_of t) (tally_at t p) p) 0 4000 ++ total_line (tally_of_all t)
