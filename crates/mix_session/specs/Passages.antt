-- The states in which the machine is at a location, by how many changes led to each, the last one first.
use Rattle.std.specs.Prelude.{ℕ, zero, suc, ◌==◌, Bool, true, false, List, [], ◌∷◌, ◌++◌}
use Rattle.mix_session.specs.Change.{world_at}
use Rattle.mix_session.specs.Timeline.{Timeline}

-- the state of a number, if it is one of them
abbrev pub passage_if : Bool → ℕ → List ℕ
passage_if false n = []
passage_if true n = n ∷ []

-- the state after the first n changes, if the machine is at the location in it
abbrev pub passage_at : Timeline → ℕ → ℕ → List ℕ
passage_at t place n = passage_if ((world_at t n).loc == place) n

-- those of the first n states; the first of all is the one before any change
abbrev pub passages_back : Timeline → ℕ → ℕ → List ℕ
passages_back t place zero = []
passages_back t place (suc n) = passage_at t place n ++ passages_back t place n
