-- The text of what differs between two states of the machine: an item for each part that does.
use Rattle.std.specs.Prelude.{ℕ, ◌+◌, ◌==◌, List, [], ◌∷◌, ◌++◌, codes, length, get_or, flat_map, if◌then◌else◌}
use Rattle.std.specs.Fmt.{decimal}
use Rattle.mix_word.specs.Prelude.{location_text, word_text, name_of_register}
use Rattle.mix_machine.specs.World.{WorldState, register_of, cell_of, has_break, unit_at}
use Rattle.mix_session.specs.Altered.{alterations, unit_differences}
use Rattle.mix_session.specs.Keyword.{toggle_name, indicator_name}
use Rattle.mix_session.specs.Show.{value_text}
use Rattle.mix_session.specs.declared.altered.Altered.{Altered}
use Rattle.mix_session.specs.declared.altered.Altered.TheVariants as part
use Rattle.mix_session.specs.declared.altered.unit.UnitNumber.{UnitNumber}
use Rattle.mix_session.specs.declared.altered.unit.UnitNumber.TheVariants.{Place, Blocks, Output, Until}
use Rattle.mix_session.specs.declared.altered.unit.UnitDifference.{UnitDifference}
use Rattle.mix_session.specs.declared.altered.unit.UnitDifference.TheVariants.{Block, Number}

-- a part by its name
abbrev pub part_text : Altered → List ℕ
part_text (part.Register r) = name_of_register r
part_text part.Over = codes "over"
part_text part.Cmp = codes "cmp"
part_text part.Loc = codes "loc"
part_text part.Clock = codes "clock"
part_text (part.Cell p) = location_text p
part_text (part.Break p) = codes "break " ++ location_text p
part_text (part.Unit n) = codes "unit " ++ decimal n

-- what a part holds; nothing of a unit, of which is told what of it differs
abbrev pub held_text : WorldState → Altered → List ℕ
held_text w (part.Register r) = value_text r (register_of w r)
held_text w part.Over = toggle_name w.over
held_text w part.Cmp = indicator_name w.cmp
held_text w part.Loc = location_text w.loc
held_text w part.Clock = decimal w.clock
held_text w (part.Cell p) = word_text (cell_of w p)
held_text w (part.Break p) = toggle_name (has_break w p)
held_text w (part.Unit n) = []

abbrev pub number_name : UnitNumber → List ℕ
number_name Place = codes "place"
number_name Blocks = codes "blocks"
number_name Output = codes "output"
number_name Until = codes "until"

-- what differs of a unit, each after a blank
abbrev pub unit_difference_text : UnitDifference → List ℕ
unit_difference_text (Block i) = codes " block " ++ decimal i
unit_difference_text (Number number before after) =
    codes " " ++ number_name number ++ codes " " ++ decimal before ++ codes " -> " ++ decimal after

-- what is told of a part: what it holds before and after; of a unit, what of it differs
abbrev pub difference_text : WorldState → WorldState → Altered → List ℕ
difference_text v w (part.Unit n) = flat_map unit_difference_text (unit_differences (unit_at v n) (unit_at w n))
difference_text v w other = codes " " ++ held_text v other ++ codes " -> " ++ held_text w other

-- an item
abbrev pub item_text : WorldState → WorldState → Altered → List ℕ
item_text v w p = part_text p ++ difference_text v w p

-- items, each on a line
abbrev pub lines_text : WorldState → WorldState → List Altered → List ℕ
lines_text v w parts = flat_map (λ p. item_text v w p ++ 10 ∷ []) parts

-- the cells of a list of parts
abbrev pub cell_in : Altered → List ℕ
cell_in (part.Cell p) = p ∷ []
cell_in other = []

abbrev pub cells_in : List Altered → List ℕ
cells_in parts = flat_map cell_in parts

-- two cells or more by one item: how many, the first and the last
abbrev pub span_text : ℕ → ℕ → ℕ → List ℕ
span_text count first last = decimal count ++ codes " cells " ++ location_text first ++ codes " to " ++ location_text last

-- an item on the line of a change, after two blanks; where there are two cells or more, they are told where the first of them stands
abbrev pub column_text : WorldState → WorldState → Altered → List ℕ → List ℕ
column_text v w (part.Cell c) (p ∷ q ∷ more) =
    if c == p then codes "  " ++ span_text (length more + 2) p (get_or (q ∷ more) (length more) p) else []
column_text v w other cells = codes "  " ++ item_text v w other

-- items on the line of a change
abbrev pub columns_text : WorldState → WorldState → List Altered → List ℕ
columns_text v w parts = flat_map (λ p. column_text v w p (cells_in parts)) parts

-- all that differs, each item on a line
abbrev pub differences : WorldState → WorldState → List ℕ
differences v w = lines_text v w (alterations v w)
