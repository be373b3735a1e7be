-- All units of the machine, and the values of them that can be put back.
use Rattle.std.specs.Prelude.{◌≡◌, ℕ, Bool, ◌&&◌, nat_le, nat_lt, List, [], ◌∷◌, length, map, take, slice_index_or, slice_set, if◌then◌else◌}
use Rattle.mix_word.specs.Prelude.{WordValue, unit_count}
use Rattle.mix_machine.specs.units.UnitKind.{kinds, block_length, has_place, has_medium, has_output}
use Rattle.mix_machine.specs.units.Row.{RowState}
use Rattle.mix_machine.specs.units.Unit.{UnitState, IsUnit, empty_unit, word_of, with_word, with_blocks, with_row, filled, last_until}
use Rattle.mix_machine.specs.declared.units.kind.UnitKind.TheVariants.{Tape}

-- unit 0, unit 1 and so on
abbrev pub UnitsState : Type 0
UnitsState = List UnitState

abbrev pub AllUnits : UnitsState → Type 0
AllUnits [] = Unit {0}
AllUnits (u ∷ us) = IsUnit u × AllUnits us

-- what the units of every machine meet: there are unit_count of them, each of its kind
pub record AreUnits (us : UnitsState) : Type 0 where
  pub kinds : map (λ u. u.kind) us ≡ kinds
  pub all : AllUnits us

-- the units with nothing in them
abbrev pub empty_units : UnitsState
empty_units = map empty_unit kinds

abbrev pub unit_of : UnitsState → ℕ → UnitState
unit_of us n = slice_index_or us n (empty_unit Tape)

-- the same units but for one
abbrev pub with_unit : UnitsState → ℕ → UnitState → UnitsState
with_unit us n u = slice_set us n u

-- Where a unit reads next.
abbrev pub set_place : UnitsState → ℕ → ℕ → UnitsState
set_place us n k = with_unit us n (record (unit_of us n) { place = k })

abbrev pub place_at : UnitsState → ℕ → ℕ
place_at us n = (unit_of us n).place

abbrev pub fits_place : UnitsState → ℕ → ℕ → Bool
fits_place us n k = nat_lt n unit_count && has_place (unit_of us n).kind && nat_le k (length (unit_of us n).blocks)

-- How many blocks a tape or a disk has, or how many rows another unit has written.
abbrev pub cut_to : ℕ → UnitState → UnitState
cut_to k u =
    if has_medium u.kind then record u { blocks = take k u.blocks } else
    if has_output u.kind then record u { rows = take k u.rows } else u

abbrev pub length_of : UnitState → ℕ
length_of u = if has_medium u.kind then length u.blocks else length u.rows

abbrev pub set_length : UnitsState → ℕ → ℕ → UnitsState
set_length us n k = with_unit us n (cut_to k (unit_of us n))

abbrev pub length_at : UnitsState → ℕ → ℕ
length_at us n = length_of (unit_of us n)

-- a list is only cut, and no further than to the place of its unit
abbrev pub can_cut : ℕ → UnitState → Bool
can_cut k u =
    if has_medium u.kind then nat_le k (length u.blocks) && nat_le u.place k else
    has_output u.kind && nat_le k (length u.rows)

abbrev pub fits_length : UnitsState → ℕ → ℕ → Bool
fits_length us n k = nat_lt n unit_count && can_cut k (unit_of us n)

-- A word of a block of a tape or a disk.
abbrev pub set_item : UnitsState → ℕ → ℕ → ℕ → WordValue → UnitsState
set_item us n i j v = with_unit us n (with_word (unit_of us n) i j v)

abbrev pub item_at : UnitsState → ℕ → ℕ → ℕ → WordValue
item_at us n i j = word_of (unit_of us n) i j

abbrev pub has_item : ℕ → ℕ → UnitState → Bool
has_item i j u = has_medium u.kind && nat_lt i (length u.blocks) && nat_lt j (block_length u.kind)

abbrev pub fits_item : UnitsState → ℕ → ℕ → ℕ → Bool
fits_item us n i j = nat_lt n unit_count && has_item i j (unit_of us n)

-- The time until which the last transfer of a unit takes.
abbrev pub set_until : UnitsState → ℕ → ℕ → UnitsState
set_until us n t = with_unit us n (record (unit_of us n) { until = t })

abbrev pub until_at : UnitsState → ℕ → ℕ
until_at us n = (unit_of us n).until

abbrev pub fits_until : ℕ → ℕ → Bool
fits_until n t = nat_lt n unit_count && nat_le t last_until

-- What only grows: blocks at the end of a tape or a disk, and rows.
abbrev pub add_blocks : UnitsState → ℕ → ℕ → List WordValue → UnitsState
add_blocks us n gap block = with_unit us n (with_blocks (unit_of us n) gap block)

abbrev pub add_row : UnitsState → ℕ → RowState → UnitsState
add_row us n row = with_unit us n (with_row (unit_of us n) row)

-- What the deck gives to a unit.
abbrev pub set_delay : UnitsState → ℕ → ℕ → UnitsState
set_delay us n t = with_unit us n (record (unit_of us n) { delay = t })

abbrev pub fill : UnitsState → ℕ → List WordValue → UnitsState
fill us n words = with_unit us n (filled (unit_of us n) words)
