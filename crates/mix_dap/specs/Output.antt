-- What the events `output` say of the rows that units write.
use Rattle.std.specs.Prelude.{ℕ, ◌-◌, List, [], ◌∷◌, ◌++◌, codes, decimal, drop, length, map, nat_lt, if◌then◌else◌}
use Rattle.rpc_message.specs.Message.{output_body}
use Rattle.mix_machine.specs.Prelude.{WorldState, unit_at, RowState}
use Rattle.mix_dap.specs.Events.{Event}
use Rattle.dap_views.specs.Variables.{row_text}
use Rattle.mix_dap.specs.declared.printed.Printed.{Printed}

-- a text, of a category
abbrev pub output : List ℕ → List ℕ → Event
output category text = record { name = codes "output"; body = output_body category text }

-- a row that was written, in a line of its own: its characters without the blanks at its end; a new page is a form feed
abbrev pub row_line : RowState → List ℕ
row_line row = row_text row ++ codes "\n"

abbrev pub row_output : RowState → Event
row_output row = output (codes "stdout") (row_line row)

-- so many rows of a unit are taken back
abbrev pub taken_line : ℕ → ℕ → List ℕ
taken_line unit count = codes "(unit " ++ decimal unit ++ codes ": the last rows are taken back, " ++ decimal count ++ codes " of them)\n"

abbrev pub taken_output : ℕ → ℕ → ℕ → List Event
taken_output unit told rows = if nat_lt rows told then output (codes "console") (taken_line unit (told - rows)) ∷ [] else []

-- what is told of a unit of which so many rows were told: each row that was written since, once; or how many of those are taken back
abbrev pub unit_outputs : ℕ → ℕ → List RowState → List Event
unit_outputs unit told rows = map row_output (drop told rows) ++ taken_output unit told (length rows)

-- the same of the units that write text, one after the other
abbrev pub outputs : Printed → WorldState → List Event
outputs told w =
    unit_outputs 17 told.card_punch (unit_at w 17).rows ++ (unit_outputs 18 told.printer (unit_at w 18).rows
    ++ (unit_outputs 19 told.typewriter (unit_at w 19).rows ++ unit_outputs 20 told.paper_tape (unit_at w 20).rows))

-- all rows that there are were told
abbrev pub all_told : WorldState → Printed
all_told w = record {
  card_punch = length (unit_at w 17).rows;
  printer = length (unit_at w 18).rows;
  typewriter = length (unit_at w 19).rows;
  paper_tape = length (unit_at w 20).rows;
}

-- no row was told
abbrev pub none_told : Printed
none_told = record { card_punch = 0; printer = 0; typewriter = 0; paper_tape = 0 }
