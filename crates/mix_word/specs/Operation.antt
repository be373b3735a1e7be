-- The table of operations (1.3.1): to each its code C, the F that goes with it, and its time.
use Rattle.std.specs.Prelude.{ℕ, ◌+◌, ◌*◌, Bool}
use Rattle.mix_word.specs.Register.{offset_of}
use Rattle.mix_word.specs.Uses.{needs}
use Rattle.mix_word.specs.declared.operation.ShiftKind.{ShiftKind}
use Rattle.mix_word.specs.declared.operation.ShiftKind.TheVariants.{Sla, Sra, Slax, Srax, Slc, Src}
use Rattle.mix_word.specs.declared.operation.JumpKind.{JumpKind}
use Rattle.mix_word.specs.declared.operation.JumpKind.TheVariants.{Jmp, Jsj, Jov, Jnov, Less, Equal, Greater, GreaterEqual, NotEqual, LessEqual}
use Rattle.mix_word.specs.declared.operation.Condition.{Condition}
use Rattle.mix_word.specs.declared.operation.Condition.TheVariants.{Negative, Zero, Positive, NotNegative, NotZero, NotPositive}
use Rattle.mix_word.specs.declared.operation.Operation.{Operation}
use Rattle.mix_word.specs.declared.operation.Operation.TheVariants.{Nop, Add, Sub, Mul, Div, Num, Char, Hlt, Shift, Move, Load, LoadNegated, Store, StoreJ, StoreZero, Jbus, Ioc, In, Out, Jred, Jump, RegisterJump, Increase, Decrease, Enter, EnterNegated, Compare}

-- C: registers stand in the order A, 1 to 6, X
abbrev pub operation_code : Operation → ℕ
operation_code Nop = 0
operation_code Add = 1
operation_code Sub = 2
operation_code Mul = 3
operation_code Div = 4
operation_code Num = 5
operation_code Char = 5
operation_code Hlt = 5
operation_code (Shift kind) = 6
operation_code Move = 7
operation_code (Load r) = 8 + offset_of r
operation_code (LoadNegated r) = 16 + offset_of r
operation_code (Store r) = 24 + offset_of r
operation_code StoreJ = 32
operation_code StoreZero = 33
operation_code Jbus = 34
operation_code Ioc = 35
operation_code In = 36
operation_code Out = 37
operation_code Jred = 38
operation_code (Jump kind) = 39
operation_code (RegisterJump r condition) = 40 + offset_of r
operation_code (Increase r) = 48 + offset_of r
operation_code (Decrease r) = 48 + offset_of r
operation_code (Enter r) = 48 + offset_of r
operation_code (EnterNegated r) = 48 + offset_of r
operation_code (Compare r) = 56 + offset_of r

abbrev pub number_of_shift : ShiftKind → ℕ
number_of_shift Sla = 0
number_of_shift Sra = 1
number_of_shift Slax = 2
number_of_shift Srax = 3
number_of_shift Slc = 4
number_of_shift Src = 5

abbrev pub number_of_jump : JumpKind → ℕ
number_of_jump Jmp = 0
number_of_jump Jsj = 1
number_of_jump Jov = 2
number_of_jump Jnov = 3
number_of_jump Less = 4
number_of_jump Equal = 5
number_of_jump Greater = 6
number_of_jump GreaterEqual = 7
number_of_jump NotEqual = 8
number_of_jump LessEqual = 9

abbrev pub number_of_condition : Condition → ℕ
number_of_condition Negative = 0
number_of_condition Zero = 1
number_of_condition Positive = 2
number_of_condition NotNegative = 3
number_of_condition NotZero = 4
number_of_condition NotPositive = 5

-- the F that goes with an operation where none is written: 5 is the whole word, 2 the bytes of an address
abbrev pub normal_f_of : Operation → ℕ
normal_f_of Nop = 0
normal_f_of Add = 5
normal_f_of Sub = 5
normal_f_of Mul = 5
normal_f_of Div = 5
normal_f_of Num = 0
normal_f_of Char = 1
normal_f_of Hlt = 2
normal_f_of (Shift kind) = number_of_shift kind
normal_f_of Move = 1
normal_f_of (Load r) = 5
normal_f_of (LoadNegated r) = 5
normal_f_of (Store r) = 5
normal_f_of StoreJ = 2
normal_f_of StoreZero = 5
normal_f_of Jbus = 0
normal_f_of Ioc = 0
normal_f_of In = 0
normal_f_of Out = 0
normal_f_of Jred = 0
normal_f_of (Jump kind) = number_of_jump kind
normal_f_of (RegisterJump r condition) = number_of_condition condition
normal_f_of (Increase r) = 0
normal_f_of (Decrease r) = 1
normal_f_of (Enter r) = 2
normal_f_of (EnterNegated r) = 3
normal_f_of (Compare r) = 5

-- several operations share one code, and F tells which is meant
abbrev pub is_by_f : Operation → Bool
is_by_f op = (needs op).by_f

-- the time of an operation with this F, in units u
abbrev pub time_of : Operation → ℕ → ℕ
time_of Nop f = 1
time_of Add f = 2
time_of Sub f = 2
time_of Mul f = 10
time_of Div f = 12
time_of Num f = 10
time_of Char f = 10
time_of Hlt f = 10
time_of (Shift kind) f = 2
time_of Move f = 1 + 2 * f
time_of (Load r) f = 2
time_of (LoadNegated r) f = 2
time_of (Store r) f = 2
time_of StoreJ f = 2
time_of StoreZero f = 2
time_of Jbus f = 1
time_of Ioc f = 1
time_of In f = 1
time_of Out f = 1
time_of Jred f = 1
time_of (Jump kind) f = 1
time_of (RegisterJump r condition) f = 1
time_of (Increase r) f = 1
time_of (Decrease r) f = 1
time_of (Enter r) f = 1
time_of (EnterNegated r) f = 1
time_of (Compare r) f = 2
