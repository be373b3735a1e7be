-- What differs between two states of the machine: the parts that differ, in the order in which `show diff` tells of them, and what of a unit
-- differs. It knows two states and no operation.
use Rattle.std.specs.Prelude.{ℕ, ◌==◌, not, Bool, min, List, [], ◌∷◌, ◌++◌, length, map, flat_map, if◌then◌else◌}
use Rattle.std.specs.Bool.{beq}
use Rattle.std.specs.Cmp.Lexicographic.{pointwise}
use Rattle.std.specs.List.{filter, range_with_len}
use Rattle.mix_word.specs.Prelude.{is_same_word, all_registers, unit_count}
use Rattle.mix_machine.specs.Prelude.{WorldState, register_of, cell_of, has_break, unit_at, is_same_indicator, is_same_unit}
use Rattle.mix_machine.specs.declared.old.Change.{Change}
use Rattle.mix_machine.specs.declared.old.Change.TheVariants.{Step}
use Rattle.mix_machine.specs.units.Unit.{UnitState, block_of}
use Rattle.mix_session.specs.declared.altered.Altered.{Altered}
use Rattle.mix_session.specs.declared.altered.Altered.TheVariants as part
use Rattle.mix_session.specs.declared.altered.Kind.{Kind}
use Rattle.mix_session.specs.declared.altered.Kind.TheVariants.{Cells, Breaks, Units}
use Rattle.mix_session.specs.declared.altered.unit.UnitNumber.{UnitNumber}
use Rattle.mix_session.specs.declared.altered.unit.UnitNumber.TheVariants.{Place, Blocks, Output, Until}
use Rattle.mix_session.specs.declared.altered.unit.UnitDifference.{UnitDifference}
use Rattle.mix_session.specs.declared.altered.unit.UnitDifference.TheVariants.{Block, Number}

-- the registers, the flags, the location and the clock
abbrev pub registers_and_flags : List Altered
registers_and_flags = map part.Register all_registers ++ part.Over ∷ part.Cmp ∷ []

abbrev pub unnumbered : List Altered
unnumbered = registers_and_flags ++ part.Loc ∷ part.Clock ∷ []

-- the parts that have numbers: of each kind, how many there are, and the one with a number
abbrev pub count_of : Kind → ℕ
count_of Cells = 4000
count_of Breaks = 4000
count_of Units = unit_count

abbrev pub part_of : Kind → ℕ → Altered
part_of Cells p = part.Cell p
part_of Breaks p = part.Break p
part_of Units n = part.Unit n

unfoldable pub numbered : Kind → List Altered
numbered kind = map (part_of kind) (range_with_len 0 (count_of kind))

-- parts that have no number, and all that have one
unfoldable pub with_numbered : List Altered → List Altered
with_numbered parts = parts ++ numbered Cells ++ numbered Breaks ++ numbered Units

-- whether a part differs
abbrev pub is_altered : WorldState → WorldState → Altered → Bool
is_altered v w (part.Register r) = not (is_same_word (register_of v r) (register_of w r))
is_altered v w part.Over = not (beq v.over w.over)
is_altered v w part.Cmp = not (is_same_indicator v.cmp w.cmp)
is_altered v w part.Loc = not (v.loc == w.loc)
is_altered v w part.Clock = not (v.clock == w.clock)
is_altered v w (part.Cell p) = not (is_same_word (cell_of v p) (cell_of w p))
is_altered v w (part.Break p) = not (beq (has_break v p) (has_break w p))
is_altered v w (part.Unit n) = not (is_same_unit (unit_at v n) (unit_at w n))

-- the parts that differ between two states
abbrev pub alterations : WorldState → WorldState → List Altered
alterations v w = filter (is_altered v w) (with_numbered unnumbered)

-- the parts that a change altered, of which its line tells: of a step all but the location and the clock, which each step alters
abbrev pub altered_by : Change → WorldState → WorldState → List Altered
altered_by Step v w = filter (is_altered v w) (with_numbered registers_and_flags)
altered_by other v w = alterations v w

-- a block that a unit has before and after, if it has other words
abbrev pub if_other_block : UnitState → UnitState → ℕ → List UnitDifference
if_other_block u x i = if pointwise is_same_word (block_of u i) (block_of x i) then [] else Block i ∷ []

unfoldable pub other_blocks : UnitState → UnitState → List UnitDifference
other_blocks u x = flat_map (if_other_block u x) (range_with_len 0 (min (length u.blocks) (length x.blocks)))

-- a number of a unit, if it is another
abbrev pub if_other : UnitNumber → ℕ → ℕ → List UnitDifference
if_other number before after = if before == after then [] else Number number before after ∷ []

-- what differs of a unit
unfoldable pub unit_differences : UnitState → UnitState → List UnitDifference
unit_differences u x =
    other_blocks u x ++ if_other Place u.place x.place ++ if_other Blocks (length u.blocks) (length x.blocks)
    ++ if_other Output (length u.rows) (length x.rows) ++ if_other Until u.until x.until
