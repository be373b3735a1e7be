-- The transfers under way, and which change conflicts with one. Until a transfer is over, a program must not use the
-- cells of an IN, nor alter those of an OUT (1.3.1, "Input-output operators").
use Rattle.std.specs.Prelude.{ℕ, Bool, true, not, ◌+◌, ◌≡◌, length, max, ◌&&◌, nat_le, nat_lt, List, [], ◌∷◌, replicate, slice_set, Option, Some, None, if◌then◌else◌}
use Rattle.std.specs.Option.{option_or}
use Rattle.mix_word.specs.Uses.{unit_count}
use Rattle.mix_machine.specs.World.{WorldState}
use Rattle.mix_machine.specs.Decode.{instruction, arguments_at}
use Rattle.mix_machine.specs.Effects.{effects}
use Rattle.mix_machine.specs.UnitAction.{transfer_end}
use Rattle.mix_machine.specs.Access.{block_from, operation_at, access_of}
use Rattle.mix_machine.specs.declared.plan.Transfer.{Transfer}
use Rattle.mix_machine.specs.declared.plan.Writes.{Writes}
use Rattle.mix_machine.specs.declared.plan.Writes.TheVariants.{Nothing, Register, RegisterAndToggle, Pair, PairAndToggle, Cell, Indicator, Copy, Input, Output, Control}
use Rattle.mix_machine.specs.declared.access.Span.{Span}
use Rattle.mix_machine.specs.declared.access.Access.{Access}
use Rattle.mix_machine.specs.declared.transfers.Direction.{Direction}
use Rattle.mix_machine.specs.declared.transfers.Direction.TheVariants as way
use Rattle.mix_machine.specs.declared.transfers.Pending.{Pending}
use Rattle.mix_machine.specs.declared.transfers.Conflict.{Conflict}
use Rattle.mix_machine.specs.declared.old.Change.{Change}
use Rattle.mix_machine.specs.declared.old.Change.TheVariants.{Step, SetReg, SetCell, SetLoc, SetOver, SetCmp, Break, Clear}

-- the last transfer of each unit, unit 0 first; none where the unit had no IN or OUT, or an IOC after it
abbrev pub TransfersState : Type 0
TransfersState = List (Option Pending)

abbrev pub no_transfers : TransfersState
no_transfers = replicate unit_count None

-- the time at which a transfer ends, or 0
abbrev pub end_of : Option Pending → ℕ
end_of None = 0
end_of (Some p) = p.until

-- the latest time at which one of them ends, or 0
abbrev pub last_end : TransfersState → ℕ
last_end [] = 0
last_end (t ∷ ts) = max (end_of t) (last_end ts)

-- what every value of the transfers meets: one for each unit, and when the last of them ends
pub record AreTransfers (ts : TransfersState) (time : ℕ) : Type 0 where
  pub units : length ts ≡ unit_count
  pub over : time ≡ last_end ts

-- what becomes of the transfer of a unit, where there is such a unit
abbrev pub becomes : ℕ → Option Pending → Option (ℕ × Option Pending)
becomes n p = if nat_lt n unit_count then Some (n, p) else None

-- the transfer of IN and OUT: its cells, and the time at which it ends
abbrev pub begun : Direction → WorldState → Transfer → Option (ℕ × Option Pending)
begun way w t =
    becomes t.unit (Some (record { way = way; cells = block_from w t.unit t.cell; until = transfer_end w t.unit }))

-- What an operation makes of a unit's transfer: IN and OUT begin one, and one that was before is over; after IOC there is none.
abbrev pub made_by : WorldState → Writes → Option (ℕ × Option Pending)
made_by w Nothing = None
made_by w (Register r v) = None
made_by w (RegisterAndToggle r v b) = None
made_by w (Pair a x) = None
made_by w (PairAndToggle a x b) = None
made_by w (Cell p v) = None
made_by w (Indicator c) = None
made_by w (Copy c) = None
made_by w (Input t) = begun way.Input w t
made_by w (Output t) = begun way.Output w t
made_by w (Control n k) = becomes n None

-- the same of a change that is accepted, from the state before it
unfoldable pub transfer_by : WorldState → Change → Option (ℕ × Option Pending)
transfer_by w Step = made_by w (effects (operation_at w) w (arguments_at w)).writes
transfer_by w (SetReg r v) = None
transfer_by w (SetCell p v) = None
transfer_by w (SetLoc p) = None
transfer_by w (SetOver b) = None
transfer_by w (SetCmp c) = None
transfer_by w (Break p) = None
transfer_by w (Clear p) = None

abbrev pub with_transfer : TransfersState → Option (ℕ × Option Pending) → TransfersState
with_transfer ts None = ts
with_transfer ts (Some made) = slice_set ts made.0 made.1

-- the transfers after a change that is accepted
abbrev pub transfers_after : TransfersState → WorldState → Change → TransfersState
transfers_after ts w c = with_transfer ts (transfer_by w c)

-- the lowest cell of the memory that is in both
abbrev pub common : Span → Span → Option ℕ
common s t =
    let cell = max s.first t.first in
    if nat_lt cell (s.first + s.count) && nat_lt cell (t.first + t.count) && nat_lt cell 4000 then Some cell else None

-- The cell of the instruction, where a transfer forbids that it is read: an IN does.
abbrev pub fetch_forbidden : Direction → Access → Span → Option ℕ
fetch_forbidden way.Input a cells = common a.fetched cells
fetch_forbidden way.Output a cells = None

-- The first other cell that is used in a way that a transfer forbids: of an IN every use of its cells, of an OUT that they
-- are written.
abbrev pub use_forbidden : Direction → Access → Span → Option ℕ
use_forbidden way.Input a cells = option_or (common a.read cells) (common a.written cells)
use_forbidden way.Output a cells = common a.written cells

-- what is found at a clock, where the transfer is under way then
abbrev pub while_under_way : Pending → ℕ → Option ℕ → Option ℕ
while_under_way p clock found = if nat_lt clock p.until then found else None

-- The first cell, in the order of a step, that is used as a transfer forbids while it is under way: an IN or OUT that has to
-- wait for its unit is fetched before it waits, and uses the others after that.
abbrev pub forbidden : Pending → Access → Option ℕ
forbidden p a =
    option_or (while_under_way p a.clock (fetch_forbidden p.way a p.cells)) (while_under_way p a.start (use_forbidden p.way a p.cells))

abbrev pub conflict_in : ℕ → Pending → Option ℕ → Option Conflict
conflict_in n p None = None
conflict_in n p (Some cell) = Some (record { cell = cell; unit = n; transfer = p })

-- with the transfer of a unit
abbrev pub conflict_with : ℕ → Option Pending → Access → Option Conflict
conflict_with n None a = None
conflict_with n (Some p) a = conflict_in n p (forbidden p a)

-- the first of the units that has one, from a unit on
abbrev pub conflict_from : ℕ → TransfersState → Access → Option Conflict
conflict_from n [] a = None
conflict_from n (t ∷ ts) a = option_or (conflict_with n t a) (conflict_from (n + 1) ts a)

-- which cell of which transfer a change conflicts with, from the state before it
abbrev pub conflict_of : TransfersState → WorldState → Change → Option Conflict
conflict_of ts w c = conflict_from 0 ts (access_of w c)

-- whether the instruction at the location is an IOC, an IN or an OUT by its C, or there is none
abbrev pub may_transfer : WorldState → Bool
may_transfer w = if nat_lt w.loc 4000 then nat_le 35 (instruction w).code && nat_le (instruction w).code 37 else true

-- Whether all transfers are over when the next step is asked for, and it is none that begins or ends one: it conflicts with
-- none, and makes nothing of one.
abbrev pub is_quiet : TransfersState → WorldState → Bool
is_quiet ts w = nat_le (last_end ts) w.clock && not (may_transfer w)
