-- The arithmetic of formulas: whole numbers of 64 bits with their sign.
use Rattle.std.specs.Prelude.{ℕ, zero, suc, ◌/◌, ◌^◌, nat_lt, Bool, if◌then◌else◌, ℤ, pos, negsuc, ◌+ℤ◌, ◌-ℤ◌, ◌*ℤ◌, neg_ℤ}
use Rattle.mix_formula.specs.declared.arithmetic.Operator.{Operator}
use Rattle.mix_formula.specs.declared.arithmetic.Operator.TheVariants.{Add, Subtract, Multiply, Divide}
use Rattle.mix_formula.specs.declared.arithmetic.Reckoned.{Reckoned}
use Rattle.mix_formula.specs.declared.arithmetic.Reckoned.TheVariants.{Known, Unknown, TooLarge}

-- whether a number is one of 64 bits with its sign
abbrev pub fits : ℤ → Bool
fits (pos n) = nat_lt n (2 ^ 63)
fits (negsuc n) = nat_lt n (2 ^ 63)

abbrev pub within : ℤ → Reckoned
within z = if fits z then Known z else TooLarge

-- the greatest whole number that is no greater than the quotient by a positive number
abbrev pub floor_by : ℤ → ℕ → ℤ
floor_by (pos a) b = pos (a / b)
floor_by (negsuc a) b = negsuc (a / b)

-- the quotient rounded down; one by zero is none
abbrev pub quotient : ℤ → ℤ → Reckoned
quotient a (pos zero) = TooLarge
quotient a (pos (suc b)) = within (floor_by a (suc b))
quotient a (negsuc b) = within (floor_by (neg_ℤ a) (suc b))

-- what an operator makes of two numbers
abbrev pub reckoned : Operator → ℤ → ℤ → Reckoned
reckoned Add a b = within (a +ℤ b)
reckoned Subtract a b = within (a -ℤ b)
reckoned Multiply a b = within (a *ℤ b)
reckoned Divide a b = quotient a b

-- what it makes of two parts: without a value where one has none, and else too large where one is
abbrev pub outcome : Operator → Reckoned → Reckoned → Reckoned
outcome operator (Known a) (Known b) = reckoned operator a b
outcome operator (Known a) Unknown = Unknown
outcome operator (Known a) TooLarge = TooLarge
outcome operator Unknown b = Unknown
outcome operator TooLarge (Known b) = TooLarge
outcome operator TooLarge Unknown = Unknown
outcome operator TooLarge TooLarge = TooLarge

abbrev pub negated : Reckoned → Reckoned
negated a = outcome Subtract (Known (pos 0)) a
