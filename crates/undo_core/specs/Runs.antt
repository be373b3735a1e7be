-- A list in which equal items that follow each other stand once, with the number of items up to the last of them.
use Rattle.std.specs.Prelude.{ℕ, ◌-◌, ◌≤◌, List, [], ◌∷◌, ◌++◌, replicate}
use Rattle.undo_core.specs.declared.runs.Run.{Run}

-- the items of the runs, where so many items stand before them
abbrev pub items_of : {T : Type 0} → ℕ → List (Run T) → List T
items_of before [] = []
items_of before (run ∷ runs) = replicate (run.end - before) run.item ++ items_of run.end runs

-- no run ends before the one before it
abbrev pub IsRising : {T : Type 0} → ℕ → List (Run T) → Type 0
IsRising before [] = Unit {0}
IsRising before (run ∷ runs) = (before ≤ run.end) × IsRising run.end runs

-- how many items stand up to the end of the runs
abbrev pub end_of : {T : Type 0} → ℕ → List (Run T) → ℕ
end_of before [] = before
end_of before (run ∷ runs) = end_of run.end runs
