-- How many values each change keeps. A change ends in a value that says so, or at a place: the number of the values up to its last one.
use Rattle.std.specs.Prelude.{◌≡◌, ℕ, zero, suc, ◌+◌, ◌-◌, ◌<◌, ◌≤◌, Bool, true, false, ◌||◌, nat_eq, List, [], ◌∷◌, ◌++◌, length, take, drop, if◌then◌else◌}

-- a list cut into parts of these lengths
abbrev pub parts_of : {T : Type 0} → List ℕ → List T → List (List T)
parts_of [] items = []
parts_of (count ∷ counts) items = take count items ∷ parts_of counts (drop count items)

-- all counts together
abbrev pub total : List ℕ → ℕ
total [] = 0
total (count ∷ counts) = count + total counts

-- whether so many values are the newest place, which comes first
abbrev pub is_place : ℕ → List ℕ → Bool
is_place n [] = false
is_place n (place ∷ places) = nat_eq place n

-- the places without it
abbrev pub places_below : ℕ → List ℕ → List ℕ
places_below n [] = []
places_below n (place ∷ places) = if nat_eq place n then places else place ∷ places

-- no place is above so many values, nor above the one after it
abbrev pub ArePlaces : ℕ → List ℕ → Type 0
ArePlaces n [] = Unit {0}
ArePlaces n (place ∷ places) = (place ≤ n) × (0 < place) × ArePlaces (place - 1) places

-- how many of the newest values, which come first, are of no change that has ended
abbrev pub open_in : {O : Type 0} → (O → Bool) → List ℕ → List O → ℕ
open_in last places [] = 0
open_in last places (v ∷ vs) = if is_place (suc (length vs)) places || last v then 0 else suc (open_in last places vs)

-- how many values each change keeps, the oldest one first, of values of which the newest comes first
abbrev pub counts_in : {O : Type 0} → (O → Bool) → List ℕ → List O → List ℕ
counts_in last places [] = []
counts_in last places (v ∷ vs) =
    if is_place (suc (length vs)) places || last v
    then counts_in last (places_below (suc (length vs)) places) vs ++ suc (open_in last (places_below (suc (length vs)) places) vs) ∷ []
    else counts_in last places vs

-- how many of the newest values, at most so many, come before one that ends a change
abbrev pub run_of : {O : Type 0} → (O → Bool) → ℕ → List O → ℕ
run_of last zero vs = 0
run_of last (suc most) [] = 0
run_of last (suc most) (v ∷ vs) = if last v then 0 else suc (run_of last most vs)

-- how many of the newest values, at most so many, the last change keeps: the newest one, and those before it that end none
abbrev pub newest_part : {O : Type 0} → (O → Bool) → ℕ → List O → ℕ
newest_part last most us = run_of last (most - 1) (drop 1 us) + 1

-- whether a change ends where these are the newest values, which come first
abbrev pub is_ended : {O : Type 0} → (O → Bool) → List O → Bool
is_ended last [] = true
is_ended last (v ∷ vs) = last v

-- the newest place, or the beginning
abbrev pub newest_place : List ℕ → ℕ
newest_place [] = 0
newest_place (place ∷ places) = place

-- no value says the end of a change
abbrev pub AreOpen : {O : Type 0} → (O → Bool) → List O → Type 0
AreOpen last [] = Unit {0}
AreOpen last (v ∷ vs) = (last v ≡ false) × AreOpen last vs

-- the last value says the end of a change, and no other
abbrev pub AreClosed : {O : Type 0} → (O → Bool) → List O → Type 0
AreClosed last [] = ⊥
AreClosed last (v ∷ []) = last v ≡ true
AreClosed last (v ∷ w ∷ vs) = (last v ≡ false) × AreClosed last (w ∷ vs)

-- the values of a change: the last of them says that it ends, or none of them does
abbrev pub IsPart : {O : Type 0} → (O → Bool) → Bool → List O → Type 0
IsPart last true vs = AreClosed last vs
IsPart last false vs = (0 < length vs) × AreOpen last vs

-- the places after a change of so many values in all, the newest one last
abbrev pub places_after : Bool → ℕ → List ℕ → List ℕ
places_after true n places = places
places_after false n places = places ++ n ∷ []
