-- A change that is done again and again.
use Rattle.std.specs.Prelude.{◌≡◌, ◌<◌, ◌&&◌, not, ℕ, zero, suc, Bool, true, List, [], ◌++◌, Result, Ok}

-- The change leads so many times from one state to another, and keeps these values. Each state before it is real, and goes on if it is not the first.
abbrev pub Repeats : {S C F O : Type 0} → (S → C → Type 0) → (S → C → Result S F) → (S → C → List O) → (S → C → Bool) → C → ℕ → S → S → List O → Type 0
Repeats real gives keeps goes c zero s t os = (t ≡ s) × (os ≡ [])
Repeats {S} {C} {F} {O} real gives keeps goes c (suc n) s t os =
    real s c × ((u : S) × (gives s c ≡ Ok u) × (0 < n → goes u c ≡ true) × ((rest : List O) × (os ≡ keeps s c ++ rest) × Repeats real gives keeps goes c n u t rest))

-- whether a change goes on from a state, which is none that stops it
abbrev pub goes_unless : {S C : Type 0} → (S → Bool) → (S → C → Bool) → S → C → Bool
goes_unless stops goes s c = not (stops s) && goes s c
