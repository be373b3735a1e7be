-- A list of changes done again from a first state, and a list of old values put back.
use Rattle.std.specs.Prelude.{◌≡◌, ℕ, ◌+◌, List, [], ◌∷◌, length, take, get_or, Option, Some, Result, unwrap_or}
use Rattle.std.specs.Option.{option_and_then, option_map_or}
use Rattle.std.specs.Result.{result_ok}

-- the state that the changes give one after the other, or none where one of them is a fault
abbrev pub replay : {S C F : Type 0} → (S → C → Result S F) → S → List C → Option S
replay gives s [] = Some s
replay gives s (c ∷ cs) = option_and_then (λ t. replay gives t cs) (result_ok (gives s c))

-- how many values the changes keep, each in the state in which it is done
abbrev pub count_kept : {S C O F : Type 0} → (S → C → Result S F) → (S → C → List O) → S → List C → ℕ
count_kept gives keeps s [] = 0
count_kept gives keeps s (c ∷ cs) =
    length (keeps s c) + option_map_or (λ t. count_kept gives keeps t cs) (result_ok (gives s c)) 0

-- the state with the values put back, the last one first, or none where one of them doesn't fit
abbrev pub put_back : {S O : Type 0} → (S → O → Option S) → List O → S → Option S
put_back put [] s = Some s
put_back put (o ∷ os) s = option_and_then (λ t. put t o) (put_back put os s)

-- the state that putting the values back gives
abbrev pub unwound : {S O : Type 0} → (S → O → Option S) → List O → S → S
unwound put kept s = unwrap_or (put_back put kept s) s

-- The values take a change back, the one after the first n: put back, they lead from the state after it to the one before it.
abbrev pub TakesBack : {S C O F : Type 0} → (S → C → Result S F) → (S → O → Option S) → S → List C → ℕ → List O → Type 0
TakesBack {S} gives put first changes n values =
    (after : S) → replay gives first (take (n + 1) changes) ≡ Some after →
    (before : S) × (put_back put values after ≡ Some before) × (replay gives first (take n changes) ≡ Some before)

-- The values are those that a change overwrote, the one after the first n, in the state in which it was done.
abbrev pub Overwrote : {S C O F : Type 0} → (S → C → Result S F) → (S → C → List O) → S → List C → ℕ → List O → Type 0
Overwrote {S} {C} gives keeps first changes n values =
    (s : S) (c : C) → replay gives first (take n changes) ≡ Some s → c ≡ get_or changes n c → values ≡ keeps s c
