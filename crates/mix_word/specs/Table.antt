-- The table of operations as a list (1.3.1), looked up by a pair (C, F) and by a name.
use Rattle.std.specs.Prelude.{◌≡◌, ℕ, ◌==◌, Bool, false, not, ◌&&◌, ◌||◌, nat_lt, IsTrue, List, [], ◌∷◌, ◌++◌, map, Option, Some, None, if◌then◌else◌}
use Rattle.std.specs.List.{find, flat_map}
use Rattle.std.specs.Str.{bytes_eq}
use Rattle.mix_word.specs.declared.register.DataReg.{DataReg}
use Rattle.mix_word.specs.declared.register.DataReg.TheVariants.{A, I1, I2, I3, I4, I5, I6, X}
use Rattle.mix_word.specs.declared.operation.ShiftKind.{ShiftKind}
use Rattle.mix_word.specs.declared.operation.ShiftKind.TheVariants.{Sla, Sra, Slax, Srax, Slc, Src}
use Rattle.mix_word.specs.declared.operation.JumpKind.{JumpKind}
use Rattle.mix_word.specs.declared.operation.JumpKind.TheVariants.{Jmp, Jsj, Jov, Jnov, Less, Equal, Greater, GreaterEqual, NotEqual, LessEqual}
use Rattle.mix_word.specs.declared.operation.Condition.TheVariants.{Negative, Zero, Positive, NotNegative, NotZero, NotPositive}
use Rattle.mix_word.specs.declared.operation.Operation.{Operation}
use Rattle.mix_word.specs.declared.operation.Operation.TheVariants.{Nop, Add, Sub, Mul, Div, Num, Char, Hlt, Shift, Move, Load, LoadNegated, Store, StoreJ, StoreZero, Jbus, Ioc, In, Out, Jred, Jump, RegisterJump, Increase, Decrease, Enter, EnterNegated, Compare}
use Rattle.mix_word.specs.declared.decoding.Decoded.{Decoded}
use Rattle.mix_word.specs.declared.decoding.Decoded.TheVariants.{Named, Floating, Unknown}
use Rattle.mix_word.specs.Operation.{operation_code, normal_f_of, is_by_f}
use Rattle.mix_word.specs.Names.{name_of}

abbrev pub data_registers : List DataReg
data_registers = A ∷ I1 ∷ I2 ∷ I3 ∷ I4 ∷ I5 ∷ I6 ∷ X ∷ []

abbrev pub shift_kinds : List ShiftKind
shift_kinds = Sla ∷ Sra ∷ Slax ∷ Srax ∷ Slc ∷ Src ∷ []

abbrev pub jump_kinds : List JumpKind
jump_kinds = Jmp ∷ Jsj ∷ Jov ∷ Jnov ∷ Less ∷ Equal ∷ Greater ∷ GreaterEqual ∷ NotEqual ∷ LessEqual ∷ []

abbrev pub register_jumps_of : DataReg → List Operation
register_jumps_of r = map (RegisterJump r) (Negative ∷ Zero ∷ Positive ∷ NotNegative ∷ NotZero ∷ NotPositive ∷ [])

abbrev pub address_transfers_of : DataReg → List Operation
address_transfers_of r = Increase r ∷ Decrease r ∷ Enter r ∷ EnterNegated r ∷ []

-- all of them, in the order of their codes
unfoldable pub operations : List Operation
operations =
    (Nop ∷ Add ∷ Sub ∷ Mul ∷ Div ∷ Num ∷ Char ∷ Hlt ∷ [])
    ++ map Shift shift_kinds
    ++ Move ∷ map Load data_registers
    ++ map LoadNegated data_registers
    ++ map Store data_registers
    ++ (StoreJ ∷ StoreZero ∷ Jbus ∷ Ioc ∷ In ∷ Out ∷ Jred ∷ [])
    ++ map Jump jump_kinds
    ++ flat_map register_jumps_of data_registers
    ++ flat_map address_transfers_of data_registers
    ++ map Compare data_registers

-- the pairs of the floating-point attachment: FADD, FSUB, FMUL, FDIV, FLOT and FCMP by F = 6, FIX by F = 7
abbrev pub is_floating : ℕ → ℕ → Bool
is_floating c f = (f == 6 && (nat_lt 0 c && nat_lt c 6 || c == 56)) || (f == 7 && c == 5)

-- whether C is this operation's code, and F its F where F tells operations apart
abbrev pub has_code : ℕ → ℕ → Operation → Bool
has_code c f op = operation_code op == c && (not (is_by_f op) || normal_f_of op == f)

-- the operation of a pair that is no floating one
unfoldable pub operation_at : ℕ → ℕ → Option Operation
operation_at c f = find (has_code c f) operations

abbrev pub named_or_unknown : Option Operation → Decoded
named_or_unknown (Some op) = Named op
named_or_unknown None = Unknown

-- what a pair (C, F) names
unfoldable pub decode_of : ℕ → ℕ → Decoded
decode_of c f = if is_floating c f then Floating else named_or_unknown (operation_at c f)

-- the pair (C, F) names this operation
abbrev pub IsNamedBy : Operation → ℕ → ℕ → Type 0
IsNamedBy op c f =
    (operation_code op ≡ c) × (IsTrue (is_by_f op) → normal_f_of op ≡ f) × (is_floating c f ≡ false)

-- the operation of a name in capitals
unfoldable pub operation_named : List ℕ → Option Operation
operation_named name = find (λ op. bytes_eq (name_of op) name) operations
