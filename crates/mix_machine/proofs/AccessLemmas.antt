-- What operations write that is in no cell and makes no transfer; a unit that is none; the word after the last cell.
use Rattle.std.specs.Prelude.{ℕ, Bool, true, false, cond, ◌==◌, ◌≡◌, ◌<◌, ◌≤◌, Option, Some, None, refl}
use Rattle.std.proofs.Common.{arith}
use Rattle.std.proofs.lemmas.List.{get_or_past}
use Rattle.mix_word.specs.Prelude.{WordValue, zero_word, plus, sum_of, unit_count}
use Rattle.mix_word.specs.declared.register.DataReg.{DataReg}
use Rattle.mix_word.specs.declared.register.DataReg.TheVariants.{A, I1, I2, I3, I4, I5, I6, X}
use Rattle.mix_word.specs.declared.operation.ShiftKind.{ShiftKind}
use Rattle.mix_word.specs.declared.operation.ShiftKind.TheVariants.{Sla, Sra, Slax, Srax, Slc, Src}
use Rattle.mix_word.specs.declared.operation.JumpKind.{JumpKind}
use Rattle.mix_word.specs.declared.operation.JumpKind.TheVariants.{Jmp, Jsj, Jov, Jnov, Less, Equal, Greater, GreaterEqual, NotEqual, LessEqual}
use Rattle.mix_machine.specs.Prelude.{WorldState, IsWorld, cell_of, unit_at, jump_writes, sum_into, shift_into, quotient_into, copy_of, transfer_start, made_by, empty_unit, last_delay, Tape, Arguments, Nothing, Copy}
use Rattle.mix_machine.specs.Access.{cells_from, no_cells, block_from, cells_written}
use Rattle.mix_machine.specs.units.Keep.{length-units, is-unit-at}

pub sum-cells : (r : DataReg) (w v : WorldState) (s : WordValue × Bool) → cells_written w (sum_into r v s) ≡ no_cells
sum-cells A w v s = refl
sum-cells X w v s = refl
sum-cells I1 w v s = refl
sum-cells I2 w v s = refl
sum-cells I3 w v s = refl
sum-cells I4 w v s = refl
sum-cells I5 w v s = refl
sum-cells I6 w v s = refl

pub shift-cells : (kind : ShiftKind) (w : WorldState) (p : WordValue × WordValue) → cells_written w (shift_into kind p) ≡ no_cells
shift-cells Sla w p = refl
shift-cells Sra w p = refl
shift-cells Slax w p = refl
shift-cells Srax w p = refl
shift-cells Slc w p = refl
shift-cells Src w p = refl

pub jump-cells : (kind : JumpKind) (w : WorldState) (j : WordValue) → cells_written w (jump_writes kind j) ≡ no_cells
jump-cells Jmp w j = refl
jump-cells Jsj w j = refl
jump-cells Jov w j = refl
jump-cells Jnov w j = refl
jump-cells Less w j = refl
jump-cells Equal w j = refl
jump-cells Greater w j = refl
jump-cells GreaterEqual w j = refl
jump-cells NotEqual w j = refl
jump-cells LessEqual w j = refl

pub quotient-cells : (w v : WorldState) (q : Option (WordValue × WordValue)) → cells_written w (quotient_into v q) ≡ no_cells
quotient-cells w v (Some q) = refl
quotient-cells w v None = refl

pub ruleset no_cells_written = (sum-cells, shift-cells, jump-cells, quotient-cells)

pub sum-makes : (r : DataReg) (w v : WorldState) (s : WordValue × Bool) → made_by w (sum_into r v s) ≡ None
sum-makes A w v s = refl
sum-makes X w v s = refl
sum-makes I1 w v s = refl
sum-makes I2 w v s = refl
sum-makes I3 w v s = refl
sum-makes I4 w v s = refl
sum-makes I5 w v s = refl
sum-makes I6 w v s = refl

pub shift-makes : (kind : ShiftKind) (w : WorldState) (p : WordValue × WordValue) → made_by w (shift_into kind p) ≡ None
shift-makes Sla w p = refl
shift-makes Sra w p = refl
shift-makes Slax w p = refl
shift-makes Srax w p = refl
shift-makes Slc w p = refl
shift-makes Src w p = refl

pub jump-makes : (kind : JumpKind) (w : WorldState) (j : WordValue) → made_by w (jump_writes kind j) ≡ None
jump-makes Jmp w j = refl
jump-makes Jsj w j = refl
jump-makes Jov w j = refl
jump-makes Jnov w j = refl
jump-makes Less w j = refl
jump-makes Equal w j = refl
jump-makes Greater w j = refl
jump-makes GreaterEqual w j = refl
jump-makes NotEqual w j = refl
jump-makes LessEqual w j = refl

pub quotient-makes : (w v : WorldState) (q : Option (WordValue × WordValue)) → made_by w (quotient_into v q) ≡ None
quotient-makes w v (Some q) = refl
quotient-makes w v None = refl

pub copy-makes : (w v : WorldState) (a : Arguments) → made_by w (copy_of v a) ≡ None
copy-makes w v a =
    elim (a.f == 0) as (λ b. made_by w (cond b Nothing (Copy (record { count = a.f; from = a.m.magnitude; to = v.registers.i1.magnitude; index = (sum_of v.registers.i1 (plus a.f)).0 }))) ≡ None) [
      | true ↦ refl
      | false ↦ refl
    ]

pub ruleset none_made = (sum-makes, shift-makes, jump-makes, quotient-makes, copy-makes)

-- a number from 21 on is read as that of a tape that has nothing in it
pub no-unit : (w : WorldState) (n : ℕ) → IsWorld w → unit_count ≤ n → unit_at w n ≡ empty_unit Tape
no-unit w n h l = get_or_past w.units n (empty_unit Tape) (rw (length-units w.units h.units) l)

pub no-unit-start : (w : WorldState) (n : ℕ) → IsWorld w → unit_count ≤ n → transfer_start w n ≡ w.clock
no-unit-start w n h l = rw (no-unit w n h l) (omega arith)

pub no-unit-block : (w : WorldState) (n cell : ℕ) → IsWorld w → unit_count ≤ n → block_from w n cell ≡ cells_from cell 100
no-unit-block w n cell h l = rw (no-unit w n h l) refl

pub ruleset no_unit = (no-unit-start, no-unit-block)

-- after the last cell nothing is read but +0
pub past-cells : (w : WorldState) → IsWorld w → 4000 ≤ w.loc → cell_of w w.loc ≡ zero_word
past-cells w h l = get_or_past w.cells w.loc zero_word (rw h.cells l)

pub ruleset past_cells = (past-cells)

-- a unit's delay is one that a deck may give
pub delay-bound : (w : WorldState) (n : ℕ) → IsWorld w → n < unit_count → (unit_at w n).delay ≤ last_delay
delay-bound w n h l = (is-unit-at w.units n h.units l).delay

pub ruleset delay_bound = (delay-bound)
