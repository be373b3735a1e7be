-- The binary operations of an expression (1.3.2), each on two words. An overflow, or no quotient, is a fault.
use Rattle.std.specs.Prelude.{ℕ, ◌==◌, Bool, List, [], ◌∷◌, Option, Some, None, Result, Ok, Err, if◌then◌else◌}
use Rattle.mix_word.specs.Prelude.{WordValue, word, plus, zero_word, negation_of, sum_of, product_of, quotient_of}
use Rattle.mixal_text.specs.declared.fault.TextFault.{TextFault}
use Rattle.mixal_text.specs.declared.fault.TextFault.TheVariants.{ExpressionOverflow}
use Rattle.mixal_text.specs.declared.operator.Operator.{Operator}
use Rattle.mixal_text.specs.declared.operator.Operator.TheVariants.{Add, Subtract, Multiply, Divide, Fraction, Field}

-- the sum, unless it overflows
abbrev pub sum_or_fault : WordValue × Bool → Result WordValue TextFault
sum_or_fault sum = if sum.1 then Err ExpressionOverflow else Ok sum.0

-- the quotient, if there is one
abbrev pub quotient_or_fault : Option (WordValue × WordValue) → Result WordValue TextFault
quotient_or_fault None = Err ExpressionOverflow
quotient_or_fault (Some parts) = Ok parts.0

-- the lower word of a product
abbrev pub lower_product : WordValue → WordValue → WordValue
lower_product a b = (product_of a b).1

-- a + b, a - b, a * b; a / b, where a stands in the lower word of the dividend; a // b, where it stands in the upper
-- one; and a : b, which is 8a + b
abbrev pub outcome_of : Operator → WordValue → WordValue → Result WordValue TextFault
outcome_of Add a b = sum_or_fault (sum_of a b)
outcome_of Subtract a b = sum_or_fault (sum_of a (negation_of b))
outcome_of Multiply a b = Ok (lower_product a b)
outcome_of Divide a b = quotient_or_fault (quotient_of (word a.sign 0) a b)
outcome_of Fraction a b = quotient_or_fault (quotient_of a zero_word b)
outcome_of Field a b = sum_or_fault (sum_of (lower_product a (plus 8)) b)

-- how many bytes it has in a text
abbrev pub operator_length : Operator → ℕ
operator_length Fraction = 2
operator_length _ = 1

-- the operator after a first slash: two slashes are one operator
abbrev pub slash_operator : List ℕ → Operator
slash_operator [] = Divide
slash_operator (byte ∷ rest) = if byte == 47 then Fraction else Divide

-- the operator that begins a text
unfoldable pub operator_at : List ℕ → Option Operator
operator_at [] = None
operator_at (byte ∷ rest) =
    if byte == 43 then Some Add
    else (if byte == 45 then Some Subtract
    else (if byte == 42 then Some Multiply
    else (if byte == 47 then Some (slash_operator rest)
    else (if byte == 58 then Some Field else None))))
