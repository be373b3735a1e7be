-- Which operations the machine does, and which values it sets, in functions of their own.
use Rattle.std.specs.Prelude.{Bool, true, false}
use Rattle.mix_word.specs.declared.operation.Operation.{Operation}
use Rattle.mix_word.specs.declared.operation.Operation.TheVariants as operation
use Rattle.mix_machine.specs.declared.old.Old.{Old}
use Rattle.mix_machine.specs.declared.old.Old.TheVariants as old

-- whether an operation is one of those that programs do least
abbrev pub is_apart : Operation → Bool
is_apart operation.Hlt = true
is_apart operation.Num = true
is_apart operation.Char = true
is_apart operation.Jbus = true
is_apart operation.Ioc = true
is_apart operation.In = true
is_apart operation.Out = true
is_apart operation.Jred = true
is_apart _ = false

-- whether a value is not one of those that steps write most
abbrev pub is_apart_value : Old → Bool
is_apart_value (old.Loc place) = false
is_apart_value (old.Clock time) = false
is_apart_value (old.Reg reg word) = false
is_apart_value (old.Cell place word) = false
is_apart_value _ = true
