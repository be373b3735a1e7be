-- How many old values an accepted change keeps: a table of its own.
use Rattle.std.specs.Prelude.{ℕ, ◌+◌, Bool, ◌==◌, nat_lt, length, if◌then◌else◌}
use Rattle.std.specs.Result.{is_ok}
use Rattle.mix_word.specs.declared.register.DataReg.{DataReg}
use Rattle.mix_word.specs.declared.register.DataReg.TheVariants.{A, I1, I2, I3, I4, I5, I6, X}
use Rattle.mix_word.specs.declared.operation.ShiftKind.{ShiftKind}
use Rattle.mix_word.specs.declared.operation.ShiftKind.TheVariants.{Sla, Sra, Slax, Srax, Slc, Src}
use Rattle.mix_word.specs.declared.operation.JumpKind.{JumpKind}
use Rattle.mix_word.specs.declared.operation.Operation.{Operation}
use Rattle.mix_word.specs.declared.operation.Operation.TheVariants.{Nop, Add, Sub, Mul, Div, Num, Char, Hlt, Shift, Move, Load, LoadNegated, Store, StoreJ, StoreZero, Jbus, Ioc, In, Out, Jred, Jump, RegisterJump, Increase, Decrease, Enter, EnterNegated, Compare}
use Rattle.mix_word.specs.declared.operation.JumpKind.TheVariants.{Jmp, Jsj, Jov, Jnov, Less, Equal, Greater, GreaterEqual, NotEqual, LessEqual}
use Rattle.mix_machine.specs.World.{WorldState, unit_at}
use Rattle.mix_machine.specs.UnitAction.{block_at}
use Rattle.mix_machine.specs.units.UnitKind.{block_length, has_place, has_medium}
use Rattle.mix_machine.specs.declared.units.kind.UnitKind.{UnitKind}
use Rattle.mix_machine.specs.declared.units.kind.UnitKind.TheVariants.{Tape, Disk, CardReader, CardPunch, Printer, Typewriter, PaperTape}
use Rattle.mix_machine.specs.Decode.{decode_at, arguments_at}
use Rattle.mix_machine.specs.Order.{operation_or_nop}
use Rattle.mix_machine.specs.Do.{plan_of}
use Rattle.mix_machine.specs.declared.decode.Arguments.{Arguments}
use Rattle.mix_machine.specs.declared.old.Change.{Change}
use Rattle.mix_machine.specs.declared.old.Change.TheVariants.{Step, SetReg, SetCell, SetLoc, SetOver, SetCmp, Break, Clear}

-- the most that one change keeps, that of a tape's block of 100 words, its place and its time
abbrev pub most_kept : ℕ
most_kept = 104

-- INC and DEC: rA and rX with the toggle, an index register alone
abbrev pub beside_sum : DataReg → ℕ
beside_sum A = 2
beside_sum X = 2
beside_sum I1 = 1
beside_sum I2 = 1
beside_sum I3 = 1
beside_sum I4 = 1
beside_sum I5 = 1
beside_sum I6 = 1

abbrev pub beside_shift : ShiftKind → ℕ
beside_shift Sla = 1
beside_shift Sra = 1
beside_shift Slax = 2
beside_shift Srax = 2
beside_shift Slc = 2
beside_shift Src = 2

-- rJ, and of two of them the toggle
abbrev pub beside_jump : JumpKind → ℕ
beside_jump Jmp = 1
beside_jump Jsj = 0
beside_jump Jov = 2
beside_jump Jnov = 2
beside_jump Less = 1
beside_jump Equal = 1
beside_jump Greater = 1
beside_jump GreaterEqual = 1
beside_jump NotEqual = 1
beside_jump LessEqual = 1

-- a transfer of a block: the time of the unit, and its place where it has one
abbrev pub beside_block : UnitKind → ℕ
beside_block kind = if has_place kind then 2 else 1

-- IN: the cells too
abbrev pub beside_in : UnitKind → ℕ
beside_in kind = block_length kind + beside_block kind

-- OUT: the words that are replaced too, or the length of what grows
abbrev pub beside_out : UnitKind → Bool → ℕ
beside_out kind is_there =
    if has_medium kind then (if is_there then block_length kind else 1) + beside_block kind else 2

-- IOC: the time, and the place of a tape or the length of what the printer has written
abbrev pub beside_control : UnitKind → ℕ
beside_control Tape = 2
beside_control Disk = 1
beside_control CardReader = 0
beside_control CardPunch = 0
beside_control Printer = 2
beside_control Typewriter = 0
beside_control PaperTape = 2

-- what a step keeps beside the location and the clock, whether or not the values alter
abbrev pub beside : Operation → WorldState → Arguments → ℕ
beside Nop w a = 0
beside Add w a = 2
beside Sub w a = 2
beside Mul w a = 2
beside Div w a = 3
beside Num w a = 2
beside Char w a = 2
beside Hlt w a = 0
beside (Shift kind) w a = beside_shift kind
beside Move w a = if a.f == 0 then 0 else a.f + 1
beside (Load r) w a = 1
beside (LoadNegated r) w a = 1
beside (Store r) w a = 1
beside StoreJ w a = 1
beside StoreZero w a = 1
beside Jbus w a = 1
beside Ioc w a = beside_control (unit_at w a.f).kind
beside In w a = beside_in (unit_at w a.f).kind
beside Out w a = beside_out (unit_at w a.f).kind (nat_lt (block_at w a.f) (length (unit_at w a.f).blocks))
beside Jred w a = 1
beside (Jump kind) w a = beside_jump kind
beside (RegisterJump r condition) w a = 1
beside (Increase r) w a = beside_sum r
beside (Decrease r) w a = beside_sum r
beside (Enter r) w a = 1
beside (EnterNegated r) w a = 1
beside (Compare r) w a = 1

-- what a change keeps if it is accepted
abbrev pub count_of : WorldState → Change → ℕ
count_of w Step = 2 + beside (operation_or_nop (decode_at w)) w (arguments_at w)
count_of w (SetReg r v) = 1
count_of w (SetCell p v) = 1
count_of w (SetLoc p) = 1
count_of w (SetOver b) = 1
count_of w (SetCmp c) = 1
count_of w (Break p) = 1
count_of w (Clear p) = 1

-- the number of values that a change keeps; a refused one keeps none
unfoldable pub kept_count : WorldState → Change → ℕ
kept_count w c = if is_ok (plan_of w c) then count_of w c else 0
