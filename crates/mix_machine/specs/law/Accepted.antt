-- What an accepted step moves to or from a unit has room: its unit has passed each fault.
use Rattle.std.specs.Prelude.{ℕ, ◌+◌, true, false, Bool, not, ◌&&◌, ◌||◌, ◌==◌, cond, nat_le, nat_lt, length, Option, Some, None, ◌≡◌, ◌<◌, ◌≤◌, refl}
use Rattle.std.proofs.Common.{arith}
use Rattle.std.proofs.lemmas.Bool.Decides.{nat_tests}
use Rattle.mix_word.specs.Prelude.{WordValue, plus, sum_of, unit_count}
use Rattle.mix_word.specs.declared.register.DataReg.{DataReg}
use Rattle.mix_word.specs.declared.register.DataReg.TheVariants.{A, I1, I2, I3, I4, I5, I6, X}
use Rattle.mix_word.specs.declared.operation.ShiftKind.{ShiftKind}
use Rattle.mix_word.specs.declared.operation.ShiftKind.TheVariants.{Sla, Sra, Slax, Srax, Slc, Src}
use Rattle.mix_word.specs.declared.operation.JumpKind.{JumpKind}
use Rattle.mix_word.specs.declared.operation.Operation.{Operation}
use Rattle.mix_word.specs.declared.operation.Operation.TheVariants.{Div, Num, Add, Sub, Shift, Move, In, Out, Ioc, Jump, Increase, Decrease}
use Rattle.mix_word.specs.declared.operation.JumpKind.TheVariants.{Jmp, Jsj, Jov, Jnov, Less, Equal, Greater, GreaterEqual, NotEqual, LessEqual}
use Rattle.mix_machine.specs.World.{WorldState, IsWorld, unit_at, last_clock}
use Rattle.mix_machine.specs.Jump.{jump_writes}
use Rattle.mix_machine.specs.Effects.{effects, reaches, sum_into, shift_into, quotient_into, copy_of, transfer_of}
use Rattle.mix_machine.specs.UnitAction.{use_of, needs_unit, transfer_start, transfer_end, block_at, wound, wrong_direction, bad_order, bad_control, no_block, unit_full, marks_page}
use Rattle.mix_machine.specs.Order.{clock_after}
use Rattle.mix_machine.specs.units.UnitKind.{has_medium, has_output}
use Rattle.mix_machine.specs.units.Unit.{UnitState, IsUnit, most_entries, last_until}
use Rattle.mix_machine.specs.units.Keep.{is-unit-at}
use Rattle.mix_machine.specs.law.Plans.{UnitFits, InputFits, OutputFits, ControlFits}
use Rattle.mix_machine.specs.declared.units.kind.UnitKind.{UnitKind}
use Rattle.mix_machine.specs.declared.units.kind.UnitKind.TheVariants.{Tape, Disk, CardReader, CardPunch, Printer, Typewriter, PaperTape}
use Rattle.mix_machine.specs.declared.decode.Arguments.{Arguments}
use Rattle.mix_machine.specs.declared.plan.Writes.TheVariants.{Nothing, Copy}

fits-sum : (r : DataReg) (w v : WorldState) (s : WordValue × Bool) → UnitFits w (sum_into r v s)
fits-sum A w v s = tt
fits-sum X w v s = tt
fits-sum I1 w v s = tt
fits-sum I2 w v s = tt
fits-sum I3 w v s = tt
fits-sum I4 w v s = tt
fits-sum I5 w v s = tt
fits-sum I6 w v s = tt

fits-shift : (kind : ShiftKind) (w : WorldState) (p : WordValue × WordValue) → UnitFits w (shift_into kind p)
fits-shift Sla w p = tt
fits-shift Sra w p = tt
fits-shift Slax w p = tt
fits-shift Srax w p = tt
fits-shift Slc w p = tt
fits-shift Src w p = tt

fits-jump : (kind : JumpKind) (w : WorldState) (j : WordValue) → UnitFits w (jump_writes kind j)
fits-jump Jmp w j = tt
fits-jump Jsj w j = tt
fits-jump Jov w j = tt
fits-jump Jnov w j = tt
fits-jump Less w j = tt
fits-jump Equal w j = tt
fits-jump Greater w j = tt
fits-jump GreaterEqual w j = tt
fits-jump NotEqual w j = tt
fits-jump LessEqual w j = tt

fits-quotient : (w v : WorldState) (q : Option (WordValue × WordValue)) → UnitFits w (quotient_into v q)
fits-quotient w v (Some q) = tt
fits-quotient w v None = tt

fits-copy : (w : WorldState) (a : Arguments) → UnitFits w (copy_of w a)
fits-copy w a =
    elim (a.f == 0) as (λ b. UnitFits w (cond b Nothing (Copy (record { count = a.f; from = a.m.magnitude; to = w.registers.i1.magnitude; index = (sum_of w.registers.i1 (plus a.f)).0 })))) [
      | true ↦ tt
      | false ↦ tt
    ]

unit-below : (f : ℕ) → nat_le unit_count f ≡ false → f < unit_count
unit-below f h = grind (arith, nat_tests)

-- the delay is added to a clock that can be shown
end-shown : (w : WorldState) (n : ℕ) → IsWorld w → n < unit_count → nat_lt last_clock (transfer_start w n + 1) ≡ false → transfer_end w n ≤ last_until
end-shown w n h l c =
    let delay = (is-unit-at w.units n h.units l).delay in
    let clock : transfer_start w n + 1 ≤ last_clock = grind (arith, nat_tests) in
    omega arith

out-block : (m : Bool) (block rows : ℕ) → m ≡ true → cond m (nat_le most_entries block) (nat_le most_entries rows) ≡ false → block < most_entries
out-block true block rows m f = grind (arith, nat_tests)
out-block false block rows m f = absurd (cc)

out-row : (m : Bool) (block rows : ℕ) → m ≡ false → cond m (nat_le most_entries block) (nat_le most_entries rows) ≡ false → rows < most_entries
out-row true block rows m f = absurd (cc)
out-row false block rows m f = grind (arith, nat_tests)

out-way : (m o : Bool) → m ≡ false → not (m || o) ≡ false → o ≡ true
out-way true o m d = absurd (cc)
out-way false true m d = refl
out-way false false m d = absurd (cc)

page-room : (m : Bool) (rows : ℕ) → m ≡ true → (m && nat_le most_entries rows) ≡ false → rows < most_entries
page-room true rows m f = grind (arith, nat_tests)
page-room false rows m f = absurd (cc)

zero-within : (u : UnitState) (m : WordValue) → not (m.magnitude == 0) ≡ false → wound u m ≤ length u.blocks
zero-within u m o = let zero : (m.magnitude == 0) ≡ true = grind arith in rw zero (omega arith)

wound-within : (u : UnitState) (kind : UnitKind) (m : WordValue) → IsUnit u → bad_order kind u m ≡ false → wound u m ≤ length u.blocks
wound-within u Tape m h o = let place = h.place in grind (arith, nat_tests)
wound-within u Disk m h o = zero-within u m o
wound-within u CardReader m h o = absurd (cc)
wound-within u CardPunch m h o = absurd (cc)
wound-within u Printer m h o = zero-within u m o
wound-within u Typewriter m h o = absurd (cc)
wound-within u PaperTape m h o = zero-within u m o

fits-in : (w : WorldState) (a : Arguments) → IsWorld w → (needs_unit In && nat_le unit_count a.f) ≡ false → not (reaches In w a) ≡ false →
    no_block (use_of In) w a.f ≡ false → nat_lt last_clock (clock_after In w a) ≡ false → InputFits w (transfer_of w a)
fits-in w a h u c b t =
    let unit = unit-below a.f u in
    let block : block_at w a.f < length (unit_at w a.f).blocks = grind (arith, nat_tests) in
    let most = (is-unit-at w.units a.f h.units unit).blocks in
    record {
      unit = unit;
      block = block;
      few = omega arith;
      cells = grind (arith, nat_tests);
      until = end-shown w a.f h unit t;
    }

fits-out : (w : WorldState) (a : Arguments) → IsWorld w → (needs_unit Out && nat_le unit_count a.f) ≡ false →
    wrong_direction (use_of Out) (unit_at w a.f).kind ≡ false → not (reaches Out w a) ≡ false →
    unit_full (use_of Out) w a.f ≡ false → nat_lt last_clock (clock_after Out w a) ≡ false → OutputFits w (transfer_of w a)
fits-out w a h u d c f t =
    let unit = unit-below a.f u in
    record {
      unit = unit;
      cells = grind (arith, nat_tests);
      until = end-shown w a.f h unit t;
      block = λ m. out-block (has_medium (unit_at w a.f).kind) (block_at w a.f) _ m f;
      output = λ m. out-way (has_medium (unit_at w a.f).kind) (has_output (unit_at w a.f).kind) m d;
      row = λ m. out-row (has_medium (unit_at w a.f).kind) (block_at w a.f) _ m f;
    }

fits-control : (w : WorldState) (a : Arguments) → IsWorld w → (needs_unit Ioc && nat_le unit_count a.f) ≡ false →
    bad_control (use_of Ioc) (unit_at w a.f) a.m ≡ false → unit_full (use_of Ioc) w a.f ≡ false →
    nat_lt last_clock (clock_after Ioc w a) ≡ false → ControlFits w a.f (wound (unit_at w a.f) a.m)
fits-control w a h u o f t =
    let unit = unit-below a.f u in
    record {
      unit = unit;
      until = end-shown w a.f h unit t;
      place = wound-within (unit_at w a.f) (unit_at w a.f).kind a.m (is-unit-at w.units a.f h.units unit) o;
      page = λ p. page-room (marks_page (unit_at w a.f).kind) (length (unit_at w a.f).rows) p f;
    }

-- a step that no fault refuses has room for what it moves
pub unit-fits : (op : Operation) (w : WorldState) (a : Arguments) → IsWorld w → (needs_unit op && nat_le unit_count a.f) ≡ false →
    wrong_direction (use_of op) (unit_at w a.f).kind ≡ false → bad_control (use_of op) (unit_at w a.f) a.m ≡ false →
    not (reaches op w a) ≡ false → no_block (use_of op) w a.f ≡ false → unit_full (use_of op) w a.f ≡ false →
    nat_lt last_clock (clock_after op w a) ≡ false → UnitFits w (effects op w a).writes
unit-fits Add w a h u d o c b f t = tt
unit-fits Sub w a h u d o c b f t = tt
unit-fits Num w a h u d o c b f t = tt
unit-fits Div w a h u d o c b f t = fits-quotient w w _
unit-fits (Shift kind) w a h u d o c b f t = fits-shift kind w _
unit-fits Move w a h u d o c b f t = fits-copy w a
unit-fits In w a h u d o c b f t = fits-in w a h u c b t
unit-fits Out w a h u d o c b f t = fits-out w a h u d c f t
unit-fits Ioc w a h u d o c b f t = fits-control w a h u o f t
unit-fits (Jump kind) w a h u d o c b f t = fits-jump kind w _
unit-fits (Increase r) w a h u d o c b f t = fits-sum r w w _
unit-fits (Decrease r) w a h u d o c b f t = fits-sum r w w _
unit-fits _ w a h u d o c b f t = tt
