-- Quotients that are rounded down.
use Rattle.std.proofs.Common.{◌≡◌, ℕ, zero, suc, ap, ◌∙◌, arith}
use Rattle.std.specs.Prelude.{ℤ, pos, negsuc, neg_ℤ, ◌<ℤ◌}
use Rattle.std.proofs.lemmas.Int.{ints}
use Rattle.mix_formula.specs.Arithmetic.{floor_by, quotient, within}
use Rattle.mix_formula.specs.declared.arithmetic.Reckoned.{Reckoned}

pub quotient-plus : (a b up by : ℤ) (r : Reckoned) → pos 0 <ℤ b → up ≡ a → by ≡ b → ((d : ℕ) → by ≡ pos d → r ≡ within (floor_by up d)) → r ≡ quotient a b
quotient-plus a (pos zero) up by r plus ua bb made = absurd (omega (arith, ints))
quotient-plus a (pos (suc d)) up by r plus ua bb made = made (suc d) bb ∙ ap (λ (z : ℤ). within (floor_by z (suc d))) ua
quotient-plus a (negsuc d) up by r plus ua bb made = absurd (omega (arith, ints))

pub quotient-minus : (a b up by : ℤ) (r : Reckoned) → b <ℤ pos 0 → up ≡ neg_ℤ a → by ≡ neg_ℤ b → ((d : ℕ) → by ≡ pos d → r ≡ within (floor_by up d)) → r ≡ quotient a b
quotient-minus a (pos d) up by r minus ua bb made = absurd (omega (arith, ints))
quotient-minus a (negsuc d) up by r minus ua bb made = made (suc d) bb ∙ ap (λ (z : ℤ). within (floor_by z (suc d))) ua
