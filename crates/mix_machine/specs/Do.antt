-- What a change does: the new state, or the first fault, which leaves the state as it was.
use Rattle.std.specs.Prelude.{true, false, ℕ, Bool, ◌&&◌, ◌||◌, ◌==◌, ◌<◌, nat_le, nat_lt, not, if◌then◌else◌, List, [], ◌+◌, Result, Ok, Err}
use Rattle.mix_word.specs.declared.decoding.Decoded.{Decoded}
use Rattle.mix_word.specs.declared.operation.Operation.{Operation}
use Rattle.mix_machine.specs.Registers.{fits_register}
use Rattle.mix_machine.specs.World.{WorldState}
use Rattle.mix_machine.specs.Write.{write_all, kept_by, writes_of}
use Rattle.mix_machine.specs.Decode.{instruction, decode_at, arguments_at}
use Rattle.mix_machine.specs.Effects.{effects}
use Rattle.mix_machine.specs.Order.{applies, order, first_fault, operation_or_nop, clock_after}
use Rattle.mix_machine.specs.declared.decode.Arguments.{Arguments}
use Rattle.mix_machine.specs.declared.plan.Plan.{Plan}
use Rattle.mix_machine.specs.declared.plan.Plan.TheVariants as plan
use Rattle.mix_machine.specs.declared.fault.MixFault.{MixFault}
use Rattle.mix_machine.specs.declared.fault.MixFault.TheVariants.{IndexOverflow}
use Rattle.mix_machine.specs.declared.old.Change.{Change}
use Rattle.mix_machine.specs.declared.old.Change.TheVariants.{Step, SetReg, SetCell, SetLoc, SetOver, SetCmp, Break, Clear}
use Rattle.mix_machine.specs.declared.old.Old.{Old}
use Rattle.mix_machine.specs.declared.old.Old.TheVariants as old

-- the location after a step
abbrev pub next_location : Bool → WorldState → Arguments → ℕ
next_location jumps w a = if jumps then a.m.magnitude else w.loc + 1

-- what an operation writes, the next location, and the next clock
abbrev pub step_plan : Operation → WorldState → Arguments → Plan
step_plan op w a =
    plan.Step (effects op w a).writes (next_location (effects op w a).jumps w a) (clock_after op w a)

-- what a step of what is decoded writes, or its first fault
abbrev pub step_or_fault : Decoded → WorldState → Arguments → Result Plan MixFault
step_or_fault d w a = first_fault (applies d w a) order (step_plan (operation_or_nop d) w a)

-- what a change writes, read from the state before it, or its first fault
unfoldable pub plan_of : WorldState → Change → Result Plan MixFault
plan_of w Step = step_or_fault (decode_at w) w (arguments_at w)
plan_of w (SetReg r v) = if fits_register r v then Ok (plan.Value (old.Reg r v)) else Err IndexOverflow
plan_of w (SetCell p v) = Ok (plan.Value (old.Cell p v))
plan_of w (SetLoc p) = Ok (plan.Value (old.Loc p))
plan_of w (SetOver b) = Ok (plan.Value (old.Over b))
plan_of w (SetCmp c) = Ok (plan.Value (old.Cmp c))
plan_of w (Break p) = Ok (plan.Value (old.Break p true))
plan_of w (Clear p) = Ok (plan.Value (old.Break p false))

abbrev pub state_after : WorldState → Result Plan MixFault → Result WorldState MixFault
state_after w (Ok p) = Ok (write_all w (writes_of w p))
state_after w (Err f) = Err f

abbrev pub values_kept : WorldState → Result Plan MixFault → List Old
values_kept w (Ok p) = kept_by w (writes_of w p)
values_kept w (Err f) = []

-- the state after a change, or the fault that refuses it and leaves the state as it was
unfoldable pub does : WorldState → Change → Result WorldState MixFault
does w c = state_after w (plan_of w c)

-- the old values that an accepted change keeps, in the order of its writes
unfoldable pub kept_values : WorldState → Change → List Old
kept_values w c = values_kept w (plan_of w c)

-- whether the next step would be a halt: the location is a cell, and the cell has C = 5 and F = 2
abbrev pub is_halt_next : WorldState → Bool
is_halt_next w =
    nat_lt w.loc 4000 && (instruction w).code == 5 && (instruction w).f == 2

-- whether C is that of HLT (with NUM and CHAR), or that of IOC, IN or OUT
abbrev pub is_looked_at : ℕ → Bool
is_looked_at code = code == 5 || nat_le 35 code && nat_le code 37

-- whether the next step needs no look at the machine first: the location is a cell, whose C is none of those
abbrev pub is_plain_next : WorldState → Bool
is_plain_next w = nat_lt w.loc 4000 && not (is_looked_at (instruction w).code)

-- whether a change is a step, which ends by the clock that it keeps
abbrev pub is_step : Change → Bool
is_step Step = true
is_step _ = false

-- what is true of the values in a change, as the places that they name are those of cells
abbrev pub IsReal : Change → Type 0
IsReal Step = Unit {0}
IsReal (SetReg r v) = Unit {0}
IsReal (SetCell p v) = p < 4000
IsReal (SetLoc p) = p < 4000
IsReal (SetOver b) = Unit {0}
IsReal (SetCmp c) = Unit {0}
IsReal (Break p) = p < 4000
IsReal (Clear p) = p < 4000
