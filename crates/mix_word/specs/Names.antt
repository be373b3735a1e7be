-- The names of the operations (1.3.1), put together from the letters of a kind and of a register.
use Rattle.std.specs.Prelude.{ℕ, List, ◌++◌, codes}
use Rattle.mix_word.specs.declared.register.DataReg.{DataReg}
use Rattle.mix_word.specs.declared.register.DataReg.TheVariants.{A, I1, I2, I3, I4, I5, I6, X}
use Rattle.mix_word.specs.declared.operation.ShiftKind.{ShiftKind}
use Rattle.mix_word.specs.declared.operation.ShiftKind.TheVariants.{Sla, Sra, Slax, Srax, Slc, Src}
use Rattle.mix_word.specs.declared.operation.JumpKind.{JumpKind}
use Rattle.mix_word.specs.declared.operation.JumpKind.TheVariants.{Jmp, Jsj, Jov, Jnov, Less, Equal, Greater, GreaterEqual, NotEqual, LessEqual}
use Rattle.mix_word.specs.declared.operation.Condition.{Condition}
use Rattle.mix_word.specs.declared.operation.Condition.TheVariants.{Negative, Zero, Positive, NotNegative, NotZero, NotPositive}
use Rattle.mix_word.specs.declared.operation.Operation.{Operation}
use Rattle.mix_word.specs.declared.operation.Operation.TheVariants.{Nop, Add, Sub, Mul, Div, Num, Char, Hlt, Shift, Move, Load, LoadNegated, Store, StoreJ, StoreZero, Jbus, Ioc, In, Out, Jred, Jump, RegisterJump, Increase, Decrease, Enter, EnterNegated, Compare}

-- the letter or digit of a register
abbrev pub letter_of : DataReg → List ℕ
letter_of A = codes "A"
letter_of I1 = codes "1"
letter_of I2 = codes "2"
letter_of I3 = codes "3"
letter_of I4 = codes "4"
letter_of I5 = codes "5"
letter_of I6 = codes "6"
letter_of X = codes "X"

abbrev pub name_of_shift : ShiftKind → List ℕ
name_of_shift Sla = codes "SLA"
name_of_shift Sra = codes "SRA"
name_of_shift Slax = codes "SLAX"
name_of_shift Srax = codes "SRAX"
name_of_shift Slc = codes "SLC"
name_of_shift Src = codes "SRC"

abbrev pub name_of_jump : JumpKind → List ℕ
name_of_jump Jmp = codes "JMP"
name_of_jump Jsj = codes "JSJ"
name_of_jump Jov = codes "JOV"
name_of_jump Jnov = codes "JNOV"
name_of_jump Less = codes "JL"
name_of_jump Equal = codes "JE"
name_of_jump Greater = codes "JG"
name_of_jump GreaterEqual = codes "JGE"
name_of_jump NotEqual = codes "JNE"
name_of_jump LessEqual = codes "JLE"

-- the end of a register jump's name
abbrev pub ending_of : Condition → List ℕ
ending_of Negative = codes "N"
ending_of Zero = codes "Z"
ending_of Positive = codes "P"
ending_of NotNegative = codes "NN"
ending_of NotZero = codes "NZ"
ending_of NotPositive = codes "NP"

abbrev pub name_of : Operation → List ℕ
name_of Nop = codes "NOP"
name_of Add = codes "ADD"
name_of Sub = codes "SUB"
name_of Mul = codes "MUL"
name_of Div = codes "DIV"
name_of Num = codes "NUM"
name_of Char = codes "CHAR"
name_of Hlt = codes "HLT"
name_of (Shift kind) = name_of_shift kind
name_of Move = codes "MOVE"
name_of (Load r) = codes "LD" ++ letter_of r
name_of (LoadNegated r) = codes "LD" ++ letter_of r ++ codes "N"
name_of (Store r) = codes "ST" ++ letter_of r
name_of StoreJ = codes "STJ"
name_of StoreZero = codes "STZ"
name_of Jbus = codes "JBUS"
name_of Ioc = codes "IOC"
name_of In = codes "IN"
name_of Out = codes "OUT"
name_of Jred = codes "JRED"
name_of (Jump kind) = name_of_jump kind
name_of (RegisterJump r condition) = codes "J" ++ letter_of r ++ ending_of condition
name_of (Increase r) = codes "INC" ++ letter_of r
name_of (Decrease r) = codes "DEC" ++ letter_of r
name_of (Enter r) = codes "ENT" ++ letter_of r
name_of (EnterNegated r) = codes "ENN" ++ letter_of r
name_of (Compare r) = codes "CMP" ++ letter_of r
