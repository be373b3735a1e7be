-- The cells whose instruction was executed.
use Rattle.std.specs.Prelude.{ℕ, zero, suc, ◌==◌, List, [], ◌∷◌, ◌++◌, if◌then◌else◌}
use Rattle.mix_session.specs.declared.tally.Tally.{Tally}

-- the rows of a table of counts: those of the first n cells whose instruction was executed, by rising location, each with its tally
abbrev pub executed : (ℕ → Tally) → ℕ → List (ℕ × Tally)
executed tally zero = []
executed tally (suc n) = executed tally n ++ (if (tally n).count == 0 then [] else (n, tally n) ∷ [])
