-- All counts together.
use Rattle.std.proofs.Common.{◌≡◌, ℕ, ◌+◌, List, [], ◌∷◌, ◌++◌, arith}
use Rattle.undo_core.specs.Counts.{total}

total-join : (xs ys : List ℕ) → total (xs ++ ys) ≡ total xs + total ys
total-join [] ys = omega arith
total-join (x ∷ xs) ys = let rest = total-join xs ys in omega (arith, rest)

pub total-last : (xs : List ℕ) (n : ℕ) → total (xs ++ n ∷ []) ≡ total xs + n
total-last xs n = let joined = total-join xs (n ∷ []) in omega (arith, joined)
