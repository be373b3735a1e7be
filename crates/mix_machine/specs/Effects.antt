-- What each operation writes beside the location and the clock, and whether it jumps to M, all read from the
-- state before the step (1.3.1, "MIX operators").
use Rattle.std.specs.Prelude.{ℕ, ◌+◌, Bool, true, false, not, ◌||◌, ◌&&◌, ◌==◌, nat_le, Option, Some, None, if◌then◌else◌}
use Rattle.mix_word.specs.Prelude.{WordValue, plus, zero_word, negation_of, is_natural, sum_of, product_of, quotient_of, put_field_of, reg_of, uses_of}
use Rattle.mix_word.specs.declared.register.DataReg.{DataReg}
use Rattle.mix_word.specs.declared.register.DataReg.TheVariants.{A, I1, I2, I3, I4, I5, I6, X}
use Rattle.mix_word.specs.declared.operation.ShiftKind.{ShiftKind}
use Rattle.mix_word.specs.declared.operation.ShiftKind.TheVariants.{Sla, Sra, Slax, Srax, Slc, Src}
use Rattle.mix_word.specs.declared.operation.Operation.{Operation}
use Rattle.mix_word.specs.declared.operation.Operation.TheVariants.{Nop, Add, Sub, Mul, Div, Num, Char, Hlt, Shift, Move, Load, LoadNegated, Store, StoreJ, StoreZero, Jbus, Ioc, In, Out, Jred, Jump, RegisterJump, Increase, Decrease, Enter, EnterNegated, Compare}
use Rattle.mix_word.specs.declared.uses.Uses.{Uses}
use Rattle.mix_word.specs.Conversion.{num_of, digit_characters_of}
use Rattle.mix_word.specs.Shift.{shift_of}
use Rattle.mix_word.specs.Comparison.{comparison_of}
use Rattle.mix_word.specs.declared.register.Reg.TheVariants as reg
use Rattle.mix_word.specs.declared.uses.Uses.TheVariants as uses
use Rattle.mix_word.specs.declared.uses.UnitUse.TheVariants as unit
use Rattle.mix_machine.specs.World.{WorldState, register_of, cell_of, unit_at}
use Rattle.mix_machine.specs.Decode.{is_cell, field_at, operand}
use Rattle.mix_machine.specs.Jump.{is_taken, is_met, return_address, jump_writes}
use Rattle.mix_machine.specs.UnitAction.{is_busy, block_at, wound}
use Rattle.mix_machine.specs.units.UnitKind.{block_length}
use Rattle.mix_machine.specs.declared.decode.Arguments.{Arguments}
use Rattle.mix_machine.specs.declared.plan.Effects.{Effects}
use Rattle.mix_machine.specs.declared.plan.Transfer.{Transfer}
use Rattle.mix_machine.specs.declared.plan.Writes.{Writes}
use Rattle.mix_machine.specs.declared.plan.Writes.TheVariants.{Nothing, Register, RegisterAndToggle, Pair, PairAndToggle, Cell, Indicator, Copy, Input, Output, Control}

-- an operation that goes on to the next location
abbrev pub goes_on : Writes → Effects
goes_on writes = record { writes = writes; jumps = false }

-- one that jumps to M where the test says so
abbrev pub jumps_where : Bool → Writes → Effects
jumps_where taken writes = record { writes = writes; jumps = taken }

-- a word into a register
abbrev pub word_into : DataReg → WordValue → Writes
word_into r v = Register (reg_of r) v

-- A sum into a register. One into rA or rX turns the toggle on where it overflows; one into an index register
-- has to fit it.
abbrev pub sum_into : DataReg → WorldState → WordValue × Bool → Writes
sum_into A w s = RegisterAndToggle reg.A s.0 (w.over || s.1)
sum_into X w s = RegisterAndToggle reg.X s.0 (w.over || s.1)
sum_into I1 w s = Register reg.I1 s.0
sum_into I2 w s = Register reg.I2 s.0
sum_into I3 w s = Register reg.I3 s.0
sum_into I4 w s = Register reg.I4 s.0
sum_into I5 w s = Register reg.I5 s.0
sum_into I6 w s = Register reg.I6 s.0

-- ten bytes into rA and rX
abbrev pub pair_into : WordValue × WordValue → Writes
pair_into p = Pair p.0 p.1

-- the quotient into rA and the remainder into rX; where there is no quotient the toggle goes on, and both stay
abbrev pub quotient_into : WorldState → Option (WordValue × WordValue) → Writes
quotient_into w (Some q) = PairAndToggle q.0 q.1 w.over
quotient_into w None = PairAndToggle w.registers.a w.registers.x true

-- SLA and SRA leave rX alone
abbrev pub shift_into : ShiftKind → WordValue × WordValue → Writes
shift_into Sla p = Register reg.A p.0
shift_into Sra p = Register reg.A p.0
shift_into Slax p = pair_into p
shift_into Srax p = pair_into p
shift_into Slc p = pair_into p
shift_into Src p = pair_into p

-- a word into the field F of the cell M
abbrev pub word_to_cell : WorldState → Arguments → WordValue → Writes
word_to_cell w a v = Cell a.m.magnitude (put_field_of (cell_of w a.m.magnitude) (field_at a.f) v)

-- F words from the cell M on to the cell rI1 on, and rI1 grows by F
abbrev pub copy_of : WorldState → Arguments → Writes
copy_of w a =
    if a.f == 0 then Nothing else Copy (record {
      count = a.f;
      from = a.m.magnitude;
      to = w.registers.i1.magnitude;
      index = (sum_of w.registers.i1 (plus a.f)).0;
    })

-- a jump to M by whether the unit F is busy
abbrev pub jumps_by : Bool → WorldState → Effects
jumps_by taken w = jumps_where taken (Register reg.J (return_address w taken))

-- a block of the unit F, and as many cells from M on
abbrev pub transfer_of : WorldState → Arguments → Transfer
transfer_of w a = record { unit = a.f; block = block_at w a.f; cell = a.m.magnitude }

abbrev pub effects : Operation → WorldState → Arguments → Effects
effects Nop w a = goes_on Nothing
effects Add w a = goes_on (sum_into A w (sum_of w.registers.a (operand w a)))
effects Sub w a = goes_on (sum_into A w (sum_of w.registers.a (negation_of (operand w a))))
effects Mul w a = goes_on (pair_into (product_of w.registers.a (operand w a)))
effects Div w a = goes_on (quotient_into w (quotient_of w.registers.a w.registers.x (operand w a)))
effects Num w a = goes_on (sum_into A w (num_of w.registers.a w.registers.x))
effects Char w a = goes_on (pair_into (digit_characters_of w.registers.a w.registers.x))
effects Hlt w a = goes_on Nothing
effects (Shift kind) w a = goes_on (shift_into kind (shift_of kind w.registers.a w.registers.x a.m.magnitude))
effects Move w a = goes_on (copy_of w a)
effects (Load r) w a = goes_on (word_into r (operand w a))
effects (LoadNegated r) w a = goes_on (word_into r (negation_of (operand w a)))
effects (Store r) w a = goes_on (word_to_cell w a (register_of w (reg_of r)))
effects StoreJ w a = goes_on (word_to_cell w a w.registers.j)
effects StoreZero w a = goes_on (word_to_cell w a zero_word)
effects Jbus w a = jumps_by (is_busy w a.f) w
effects Ioc w a = goes_on (Control a.f (wound (unit_at w a.f) a.m))
effects In w a = goes_on (Input (transfer_of w a))
effects Out w a = goes_on (Output (transfer_of w a))
effects Jred w a = jumps_by (not (is_busy w a.f)) w
effects (Jump kind) w a = jumps_where (is_taken kind w) (jump_writes kind (return_address w (is_taken kind w)))
effects (RegisterJump r condition) w a =
    let taken = is_met condition (register_of w (reg_of r)) in
    jumps_where taken (Register reg.J (return_address w taken))
effects (Increase r) w a = goes_on (sum_into r w (sum_of (register_of w (reg_of r)) a.m))
effects (Decrease r) w a = goes_on (sum_into r w (sum_of (register_of w (reg_of r)) (negation_of a.m)))
effects (Enter r) w a = goes_on (word_into r a.m)
effects (EnterNegated r) w a = goes_on (word_into r (negation_of a.m))
effects (Compare r) w a =
    goes_on (Indicator (comparison_of (register_of w (reg_of r)) (cell_of w a.m.magnitude) (field_at a.f)))

-- whether f cells, one at least, stand from a word's number on
abbrev pub is_row : WordValue → ℕ → Bool
is_row m f = is_natural m && nat_le (m.magnitude + f) 4000

-- whether there is each cell that is used: the operand, the cells of MOVE or of a block, M where the operation jumps there
abbrev pub has_cells : Uses → Bool → WorldState → Arguments → Bool
has_cells uses.Nothing jumps w a = true
has_cells uses.FAlone jumps w a = true
has_cells uses.Address jumps w a = not jumps || is_cell a.m
has_cells uses.Count jumps w a = true
has_cells uses.Operand jumps w a = is_cell a.m
has_cells uses.Cells jumps w a = a.f == 0 || (is_row a.m a.f && is_row w.registers.i1 a.f)
has_cells (uses.Unit unit.Looks) jumps w a = not jumps || is_cell a.m
has_cells (uses.Unit unit.Controls) jumps w a = true
has_cells (uses.Unit unit.Reads) jumps w a = is_row a.m (block_length (unit_at w a.f).kind)
has_cells (uses.Unit unit.Writes) jumps w a = is_row a.m (block_length (unit_at w a.f).kind)

abbrev pub reaches : Operation → WorldState → Arguments → Bool
reaches op w a = has_cells (uses_of op) (effects op w a).jumps w a
