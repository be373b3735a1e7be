-- Step over: how many steps an instruction takes with the subroutine that it calls (1.4.1), and with all that this calls in turn.
use Rattle.std.specs.Prelude.{ℕ, zero, suc, ◌+◌, ◌-◌, ◌==◌, ◌&&◌, ◌||◌, not, Bool, Result, Ok, Err, is_ok, nat_lt, if◌then◌else◌}
use Rattle.mix_word.specs.Word.{byte_of}
use Rattle.mix_word.specs.declared.register.Reg.TheVariants.{J}
use Rattle.mix_machine.specs.Prelude.{WorldState, cell_of, does, is_halt_next, register_of}
use Rattle.mix_machine.specs.declared.fault.MixFault.{MixFault}
use Rattle.mix_machine.specs.declared.old.Change.TheVariants.{Step}
use Rattle.mix_session.specs.Command.{least_below}

-- the machine after one step more; a fault leaves it as it is
abbrev pub state_or : WorldState → Result WorldState MixFault → WorldState
state_or w (Ok next) = next
state_or w (Err fault) = w

-- the machine after so many steps
abbrev pub stepped : WorldState → ℕ → WorldState
stepped w zero = w
stepped w (suc k) = state_or (stepped w k) (does (stepped w k) Step)

-- whether the next instruction is STJ, with which a subroutine begins
abbrev pub begins_subroutine : WorldState → Bool
begins_subroutine w = nat_lt w.loc 4000 && byte_of (cell_of w w.loc) 5 == 32

-- Whether a step of the instruction at a location was a call, by the machine after it: it has not gone on to the next location, but rJ holds that,
-- and a subroutine begins there.
abbrev pub is_call : ℕ → WorldState → Bool
is_call at w = not (w.loc == at + 1) && ((register_of w J).magnitude == at + 1 && begins_subroutine w)

-- How many calls of the instruction at `from` have not come back, after a step at a location that led to this machine, of so many before it: a call
-- of that instruction is one more, and who comes to the location after it from elsewhere has come back from one.
abbrev pub calls_after : ℕ → ℕ → WorldState → ℕ → ℕ
calls_after from at w calls =
    if at == from then (if is_call at w then calls + 1 else calls) else if w.loc == from + 1 then calls - 1 else calls

-- the same after so many steps
abbrev pub calls_in : WorldState → ℕ → ℕ
calls_in w zero = 0
calls_in w (suc k) = calls_after w.loc (stepped w k).loc (stepped w (suc k)) (calls_in w k)

-- whether the step after the first k is the last one: it is a halt or a fault, or all calls have come back then
abbrev pub is_last : WorldState → ℕ → Bool
is_last w k = is_halt_next (stepped w k) || (not (is_ok (does (stepped w k) Step)) || calls_in w (suc k) == 0)

-- how many steps it takes: up to the first of these, or as many as are allowed
unfoldable pub steps_over : WorldState → ℕ → ℕ
steps_over w most = suc (least_below (most - 1) (is_last w))
