-- How old values stand in units of 32 bits. Most take one to three of them, and the last is its header: the kind of the value in the
-- lowest four bits, and 28 bits of the value itself, the payload. So units are read from the last one backwards. What a step keeps last, its
-- location and its clock, may be said by how far they are from those after the step, the anchor: then one header says two values or three.
use Rattle.std.specs.Prelude.{ℕ, ◌≡◌, ◌+◌, ◌-◌, ◌*◌, ◌/◌, ◌%◌, ◌^◌, Bool, true, false, cond, nat_eq, nat_lt, zero, suc, List, [], ◌∷◌, ◌++◌, length, take, reverse, Option, None, Some, slice_get}
use Rattle.std.specs.Option.{option_map, option_map_or, option_and_then}
use Rattle.mix_word.specs.Prelude.{WordValue, word, all_registers, unit_count}
use Rattle.mix_word.specs.declared.register.Reg.{Reg}
use Rattle.mix_word.specs.declared.word.Sign.TheVariants.{Plus, Minus}
use Rattle.mix_word.specs.declared.word.Cmp.{Cmp}
use Rattle.mix_word.specs.declared.register.Reg.TheVariants as reg
use Rattle.mix_word.specs.declared.word.Cmp.TheVariants as cmp
use Rattle.undo_core.specs.Pack.{unit_list}
use Rattle.undo_core.specs.declared.pack.Last.{Last}
use Rattle.mix_machine.specs.declared.old.Old.{Old}
use Rattle.mix_machine.specs.declared.old.Old.TheVariants as old
use Rattle.mix_machine.specs.declared.pack.anchor.Anchor.{Anchor}
use Rattle.mix_machine.specs.declared.pack.kind.Kind.{Kind}
use Rattle.mix_machine.specs.declared.pack.kind.Kind.TheVariants as kind

-- the kinds, each at its number
abbrev pub kinds : List Kind
kinds =
    kind.Location ∷ kind.Clock ∷ kind.Register ∷ kind.Row ∷ kind.Moment ∷ kind.LongRegister ∷ kind.Indicator ∷ kind.Store ∷
    kind.Breakpoint ∷ kind.UnitPlace ∷ kind.UnitLength ∷ kind.UnitItem ∷ kind.UnitTime ∷ kind.WholeMoment ∷
    kind.Jump ∷ kind.Short ∷ []

-- the number of a kind in that order
abbrev pub kind_number : Kind → ℕ
kind_number kind.Location = 0
kind_number kind.Clock = 1
kind_number kind.Register = 2
kind_number kind.Row = 3
kind_number kind.Moment = 4
kind_number kind.LongRegister = 5
kind_number kind.Indicator = 6
kind_number kind.Store = 7
kind_number kind.Breakpoint = 8
kind_number kind.UnitPlace = 9
kind_number kind.UnitLength = 10
kind_number kind.UnitItem = 11
kind_number kind.UnitTime = 12
kind_number kind.WholeMoment = 13
kind_number kind.Jump = 14
kind_number kind.Short = 15

-- a header
abbrev pub header_of : Kind → ℕ → ℕ
header_of k n = n * 16 + kind_number k

-- the kind of a header, if there is one of its number
abbrev pub kind_of : ℕ → Option Kind
kind_of header = slice_get kinds (header % 16)

-- the last value of units, the anchor before it, and the units before it, of which the last one comes first
pub record LastValue : Type 0 where
  pub value : Old
  pub anchor : Anchor
  pub before : List ℕ

abbrev pub last_of : Old → Anchor → List ℕ → LastValue
last_of v a us = record { value = v; anchor = a; before = us }

-- a value that a test lets pass
abbrev pub value_if : Bool → Old → Option Old
value_if test v = cond test (Some v) None

-- a word whose magnitude is below 2^23: the magnitude, and above it a bit that is 1 for the sign -
abbrev pub short_word : ℕ → WordValue
short_word n = word (cond (nat_lt n (2 ^ 23)) Plus Minus) (n % 2 ^ 23)

-- any word: the magnitude, and above it a bit that is 1 for the sign -
abbrev pub long_word : ℕ → WordValue
long_word n = word (cond (nat_lt n (2 ^ 30)) Plus Minus) (n % 2 ^ 30)

-- The bits of a word whose magnitude is below a limit, with the sign above it, as those of one below 2^23.
abbrev pub wide_bits : ℕ → ℕ → ℕ
wide_bits limit n = cond (nat_lt n limit) 0 (2 ^ 23) + n % limit

-- a time: its lower 32 bits, and those above them
abbrev pub time_of : ℕ → ℕ → ℕ
time_of low high = high * 2 ^ 32 + low

abbrev pub comparison_of : ℕ → Cmp
comparison_of n = cond (nat_eq n 0) cmp.Less (cond (nat_eq n 1) cmp.Equal cmp.Greater)

-- the overflow toggle, off or on, or the comparison indicator
abbrev pub indicator_value : ℕ → Old
indicator_value n = cond (nat_lt n 2) (old.Over (nat_eq n 1)) (old.Cmp (comparison_of (n - 2)))

-- a register by its number, if there is one, and its word
abbrev pub register_value : ℕ → WordValue → Option Old
register_value r w = option_map (λ reg. old.Reg reg w) (slice_get all_registers r)

-- a breakpoint of a cell, if there is such a cell: the place, and above it a bit that is 1 where it is given
abbrev pub breakpoint_value : ℕ → Option Old
breakpoint_value n = value_if (nat_lt (n % 4096) 4000) (old.Break (n % 4096) (nat_eq (n / 4096) 1))

-- a value of an input-output unit, if there is one of this number
abbrev pub unit_value : ℕ → Old → Option Old
unit_value unit v = value_if (nat_lt unit unit_count) v

-- a value that stands in its header alone, if it is one
abbrev pub in_one : Option Old → Anchor → List ℕ → Option LastValue
in_one None a us = None
in_one (Some v) a us = Some (last_of v a us)

-- a value that stands in its header and the unit before it
abbrev pub in_two : (ℕ → Option Old) → Anchor → List ℕ → Option LastValue
in_two says a [] = None
in_two says a (one ∷ us) = in_one (says one) a us

-- what the two units before a header say
abbrev pub in_pair : (ℕ → ℕ → List ℕ → Option LastValue) → List ℕ → Option LastValue
in_pair says [] = None
in_pair says (two ∷ []) = None
in_pair says (two ∷ one ∷ us) = says one two us

-- a value that stands in its header and the two units before it
abbrev pub in_three : (ℕ → ℕ → Option Old) → Anchor → List ℕ → Option LastValue
in_three says a us = in_pair (λ one two rest. in_one (says one two) a rest) us

-- What is left of a row of cells, one after the other, without its last cell: the header of a row that is one cell shorter and ends one
-- place before, or none where there was one cell. The payload is how many cells there are, and below that in 12 bits the place of the last one.
abbrev pub shorter_row : ℕ → Option ℕ
shorter_row n = cond (nat_lt n (2 * 4096)) None (Some (header_of kind.Row (n - 4097)))

-- the last cell of a row, whose words stand before the header, the last one last
abbrev pub last_cell : ℕ → Anchor → List ℕ → Option LastValue
last_cell n a [] = None
last_cell n a (w ∷ us) = in_one (value_if (nat_lt (n % 4096) 4000) (old.Cell (n % 4096) (long_word w))) a (unit_list (shorter_row n) ++ us)

-- The clock and the location before a step, by its time. The payload is the location in 12 bits, and above it the time.
abbrev pub before_moment : ℕ → Anchor → Anchor
before_moment n a = record { loc = n % 4096; clock = a.clock - n / 4096 }

abbrev pub moment_value : ℕ → Anchor → List ℕ → Option LastValue
moment_value n a us = Some (last_of (old.Clock (before_moment n a).clock) (before_moment n a) (header_of kind.Location (n % 4096) ∷ us))

-- The same in full, in the two units before the header, and before these the clock of the anchor, whose location stands above the other.
abbrev pub whole_value : ℕ → List ℕ → Option LastValue
whole_value n us =
    in_pair (λ low high rest. in_pair (λ anchor_low anchor_high left.
    Some (last_of (old.Clock (time_of low high)) (record { loc = n / 4096; clock = time_of anchor_low anchor_high }) (header_of kind.Location (n % 4096) ∷ left))) rest) us

-- The clock and the location before a jump, and rJ. The lowest bit of the payload is 0 where it says the clock, 1 u earlier; then come the
-- location in 12 bits, and the magnitude and the sign of rJ.
abbrev pub before_jump : ℕ → Anchor → Anchor
before_jump n a = record { loc = n / 2 % 4096; clock = a.clock - 1 }

abbrev pub jump_value : Bool → ℕ → Anchor → List ℕ → Option LastValue
jump_value true n a us = Some (last_of (old.Clock (before_jump n a).clock) (before_jump n a) (header_of kind.Jump (n + 1) ∷ us))
jump_value false n a us = Some (last_of (old.Loc (n / 2 % 4096)) a (header_of kind.Register (wide_bits 4096 (n / 8192) * 16 + 8) ∷ us))

-- the anchor before a step that goes on to the next location and takes so many u
abbrev pub before_next : ℕ → Anchor → Anchor
before_next time a = record { loc = a.loc - 1; clock = a.clock - time }

-- The clock and the location before a step that goes on to the next one, and a register. The payload is the number of the register in three
-- bits; one bit for the time, 1 or 2 u; one that is 0 where it says the clock; and the magnitude of the word in 22 bits, and its sign.
abbrev pub before_short : ℕ → Anchor → Anchor
before_short n a = before_next (n / 8 % 2 + 1) a

abbrev pub short_value : Bool → ℕ → Anchor → List ℕ → Option LastValue
short_value true n a us = Some (last_of (old.Clock (before_short n a).clock) (before_short n a) (header_of kind.Short (n + 16) ∷ us))
short_value false n a us = Some (last_of (old.Loc a.loc) a (header_of kind.Register (wide_bits (2 ^ 22) (n / 32) * 16 + n % 8) ∷ us))

-- The clock and the location before a store, which goes on to the next one and takes 2 u, and the cell that it overwrote, whose word stands
-- before the header. The lowest bit of the payload is 0 where it says the clock, and above it is the place of the cell in 12 bits.
abbrev pub before_store : Anchor → Anchor
before_store a = before_next 2 a

abbrev pub store_value : Bool → ℕ → Anchor → List ℕ → Option LastValue
store_value true n a us = Some (last_of (old.Clock (before_store a).clock) (before_store a) (header_of kind.Store (n + 1) ∷ us))
store_value false n a us = Some (last_of (old.Loc a.loc) a (header_of kind.Row (4096 + n / 2 % 4096) ∷ us))

-- all that such a header says
abbrev pub moment_said : ℕ → Anchor → List Old
moment_said n a = old.Loc (before_moment n a).loc ∷ old.Clock (before_moment n a).clock ∷ []

abbrev pub jump_said : ℕ → Anchor → List Old
jump_said n a = old.Reg reg.J (short_word (wide_bits 4096 (n / 8192))) ∷ old.Loc (before_jump n a).loc ∷ old.Clock (before_jump n a).clock ∷ []

abbrev pub short_said : Reg → ℕ → Anchor → List Old
short_said r n a = old.Reg r (short_word (wide_bits (2 ^ 22) (n / 32))) ∷ old.Loc (before_short n a).loc ∷ old.Clock (before_short n a).clock ∷ []

abbrev pub store_said : ℕ → ℕ → Anchor → List Old
store_said place w a = old.Cell place (long_word w) ∷ old.Loc (before_store a).loc ∷ old.Clock (before_store a).clock ∷ []

-- the last value where the header is of this kind and payload
abbrev pub value_by : Kind → ℕ → Anchor → List ℕ → Option LastValue
value_by kind.Location n a us = in_one (Some (old.Loc (n % 65536))) a us
value_by kind.Clock n a us = in_three (λ low high. Some (old.Clock (time_of low high))) a us
value_by kind.Register n a us = in_one (register_value (n % 16) (short_word (n / 16))) a us
value_by kind.Row n a us = last_cell n a us
value_by kind.Moment n a us = moment_value n a us
value_by kind.LongRegister n a us = in_two (λ w. register_value n (long_word w)) a us
value_by kind.Indicator n a us = in_one (Some (indicator_value n)) a us
value_by kind.Store n a us = store_value (nat_eq (n % 2) 0) n a us
value_by kind.Breakpoint n a us = in_one (breakpoint_value n) a us
value_by kind.UnitPlace n a us = in_one (unit_value (n / 65536) (old.At (n / 65536) (n % 65536))) a us
value_by kind.UnitLength n a us = in_one (unit_value (n / 65536) (old.Len (n / 65536) (n % 65536))) a us
value_by kind.UnitItem n a us = in_three (λ w i. unit_value (n / 256) (old.Item (n / 256) (i % 65536) (n % 256) (long_word w))) a us
value_by kind.UnitTime n a us = in_three (λ low high. unit_value n (old.Until n (time_of low high))) a us
value_by kind.WholeMoment n a us = whole_value n us
value_by kind.Jump n a us = jump_value (nat_eq (n % 2) 0) n a us
value_by kind.Short n a us = short_value (nat_eq (n / 16 % 2) 0) n a us

-- the last value of units, of which the last one comes first; none where that is no header, or the units before it are too few
abbrev pub last_value : Anchor → List ℕ → Option LastValue
last_value a [] = None
last_value a (header ∷ us) = option_and_then (λ k. value_by k (header / 16) a us) (kind_of header)

-- whether the last value that a header of this kind and payload says is a clock
abbrev pub clock_by : Kind → ℕ → Bool
clock_by kind.Clock n = true
clock_by kind.Moment n = true
clock_by kind.WholeMoment n = true
clock_by kind.Jump n = nat_eq (n % 2) 0
clock_by kind.Store n = nat_eq (n % 2) 0
clock_by kind.Short n = nat_eq (n / 16 % 2) 0
clock_by _ n = false

abbrev pub says_clock : ℕ → Bool
says_clock header = option_map_or (λ k. clock_by k (header / 16)) (kind_of header) false

-- at most so many values of units, of which the last one comes first
abbrev pub values_before : ℕ → Anchor → List ℕ → List Old
values_before zero a us = []
values_before (suc most) a us = option_map_or (λ last. values_before most last.anchor last.before ++ last.value ∷ []) (last_value a us) []

-- what units say by an anchor, which is no more than three values each; units that end in no value say nothing
abbrev pub said : Anchor → List ℕ → List Old
said a units = values_before (3 * length units) a (reverse units)

-- A header says these values, by the anchor after them, and units before it are read by the one before them.
abbrev pub Says : ℕ → Anchor → Anchor → List Old → Type 0
Says header after before values = (units : List ℕ) → said after (units ++ header ∷ []) ≡ said before units ++ values

-- A header after a word says these values, by the anchor after them, and units before both are read by the one before them.
abbrev pub SaysWith : ℕ → ℕ → Anchor → Anchor → List Old → Type 0
SaysWith w header after before values = (units : List ℕ) → said after ((units ++ w ∷ []) ++ header ∷ []) ≡ said before units ++ values

-- units and after them the two of a time
abbrev pub IsAfterTime : List ℕ → ℕ → List ℕ → Type 0
IsAfterTime before time after = (low : ℕ) × (high : ℕ) × (after ≡ (before ++ low ∷ []) ++ high ∷ []) × (time_of low high ≡ time)

-- the last value as it is read from units before the header: the first ones of them are left, and maybe one more
abbrev pub seen : List ℕ → Last Old Anchor → LastValue
seen before last = last_of last.value last.anchor (reverse (take last.left before ++ unit_list last.more))

-- whether a kind is not one of those that a step has most of
abbrev pub is_rare : Kind → Bool
is_rare kind.Location = false
is_rare kind.Register = false
is_rare kind.Row = false
is_rare kind.Moment = false
is_rare kind.Jump = false
is_rare kind.Short = false
is_rare kind.Store = false
is_rare _ = true
