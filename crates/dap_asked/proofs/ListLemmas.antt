-- Facts of lists of numbered things.
use Rattle.std.proofs.Common.{◌≡◌, ℕ, zero, suc, ◌+◌, [], ◌∷◌, ◌++◌, refl, ap, ◌∙◌, add-zero, arith}
use Rattle.std.specs.List.{range_with_len}

-- one number more
pub range-suc : (a n : ℕ) → range_with_len a (suc n) ≡ range_with_len a n ++ (a + n) ∷ []
range-suc a zero = rw (add-zero a) refl
range-suc a (suc n) = let next : (a + 1) + n ≡ a + suc n = omega arith in ap (λ t. a ∷ t) (range-suc (a + 1) n ∙ rw next refl)
