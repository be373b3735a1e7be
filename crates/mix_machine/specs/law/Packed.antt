-- Units say no more than three values each.
use Rattle.std.specs.Prelude.{ℕ, zero, suc, ◌*◌, ◌≤◌, List, [], ◌∷◌, ◌++◌, length, reverse, Option, None, Some}
use Rattle.std.specs.Option.{option_map_or}
use Rattle.std.proofs.Common.{arith, length-append}
use Rattle.mix_machine.specs.declared.pack.anchor.Anchor.{Anchor}
use Rattle.mix_machine.specs.Pack.{LastValue, values_before, last_value, said}

fewer-step : (most : ℕ) → ((a : Anchor) (us : List ℕ) → length (values_before most a us) ≤ most) → (last : Option LastValue) →
    length (option_map_or (λ l. values_before most l.anchor l.before ++ l.value ∷ []) last []) ≤ suc most
fewer-step most next None = omega arith
fewer-step most next (Some l) = omega (arith, next l.anchor l.before, length-append (values_before most l.anchor l.before) (l.value ∷ []))

fewer-before : (most : ℕ) (a : Anchor) (us : List ℕ) → length (values_before most a us) ≤ most
fewer-before zero a us = omega arith
fewer-before (suc most) a us = fewer-step most (fewer-before most) (last_value a us)

pub said-fewer : (a : Anchor) (units : List ℕ) → length (said a units) ≤ 3 * length units
said-fewer a units = fewer-before (3 * length units) a (reverse units)
