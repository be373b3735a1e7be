-- The number by which a step finds what a pair (C, F) names, in one table (1.3.1).
use Rattle.std.specs.Prelude.{◌≡◌, ℕ, ◌+◌, ◌/◌, ◌%◌, ◌<◌, Bool, true, false, List, get_or}
use Rattle.mix_word.specs.declared.operation.Operation.{Operation}
use Rattle.mix_word.specs.declared.operation.Operation.TheVariants.{Nop, Add, Sub, Mul, Div, Num, Char, Hlt, Shift, Move, Load, LoadNegated, Store, StoreJ, StoreZero, Jbus, Ioc, In, Out, Jred, Jump, RegisterJump, Increase, Decrease, Enter, EnterNegated, Compare}
use Rattle.mix_word.specs.declared.decoding.Decoded.{Decoded}
use Rattle.mix_word.specs.declared.decoding.Decoded.TheVariants.{Named, Floating, Unknown}
use Rattle.mix_word.specs.Operation.{number_of_shift, number_of_jump, number_of_condition}
use Rattle.mix_word.specs.Table.{decode_of}

-- an operation's number, which is the same for each register: first those that programs do most,
-- last those that a run looks at before their step
abbrev pub number_of_operation : Operation → ℕ
number_of_operation Nop = 0
number_of_operation Add = 1
number_of_operation Sub = 2
number_of_operation (Load r) = 3
number_of_operation (LoadNegated r) = 4
number_of_operation (Store r) = 5
number_of_operation StoreJ = 6
number_of_operation StoreZero = 7
number_of_operation (Increase r) = 8
number_of_operation (Decrease r) = 9
number_of_operation (Enter r) = 10
number_of_operation (EnterNegated r) = 11
number_of_operation (Compare r) = 12
number_of_operation (Jump kind) = 13 + number_of_jump kind
number_of_operation (RegisterJump r condition) = 23 + number_of_condition condition
number_of_operation Mul = 29
number_of_operation Div = 30
number_of_operation (Shift kind) = 31 + number_of_shift kind
number_of_operation Move = 37
number_of_operation Jbus = 38
number_of_operation Jred = 39
number_of_operation Num = 40
number_of_operation Char = 41
number_of_operation Hlt = 42
number_of_operation Ioc = 43
number_of_operation In = 44
number_of_operation Out = 45

-- the number of what a pair names, and 46 where that is no operation of MIX
abbrev pub number_of_pair : Decoded → ℕ
number_of_pair (Named op) = number_of_operation op
number_of_pair Floating = 46
number_of_pair Unknown = 46

-- whether an operation is of a register, which its C says and its number does not
abbrev pub is_of_register : Operation → Bool
is_of_register (Load r) = true
is_of_register (LoadNegated r) = true
is_of_register (Store r) = true
is_of_register (RegisterJump r condition) = true
is_of_register (Increase r) = true
is_of_register (Decrease r) = true
is_of_register (Enter r) = true
is_of_register (EnterNegated r) = true
is_of_register (Compare r) = true
is_of_register _ = false

-- a list that has, at the place of each pair, F and then C, the number of what it names
abbrev pub IsPairTable : List ℕ → Type 0
IsPairTable numbers = (pair : ℕ) → pair < 4096 → get_or numbers pair 0 ≡ number_of_pair (decode_of (pair % 64) (pair / 64))
