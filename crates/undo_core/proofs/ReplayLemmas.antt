-- A list one change longer replayed and counted, and two lists of old values put back.
use Rattle.std.proofs.Common.{◌≡◌, ℕ, ◌+◌, List, [], ◌∷◌, ◌++◌, length, Option, Some, Result, Ok, Err, refl, ap, arith}
use Rattle.std.specs.Option.{option_and_then, option_map_or}
use Rattle.std.specs.Result.{result_ok}
use Rattle.undo_core.specs.Replay.{replay, count_kept, put_back}

-- to replay one change more is to do it after the others
pub replay-append : {S C F : Type 0} (gives : S → C → Result S F) (s : S) (cs : List C) (c : C) →
    replay gives s (cs ++ c ∷ []) ≡ option_and_then (λ t. result_ok (gives t c)) (replay gives s cs)
replay-append gives s [] c =
    elim (gives s c) as (λ r. option_and_then (λ t. Some t) (result_ok r) ≡ result_ok r) [ Ok t ↦ refl | Err f ↦ refl ]
replay-append {S} {C} {F} gives s (d ∷ cs) c =
    elim (gives s d) as (λ r. option_and_then (λ t. replay gives t (cs ++ c ∷ [])) (result_ok r) ≡
    option_and_then (λ t. result_ok (gives t c)) (option_and_then (λ t. replay gives t cs) (result_ok r)))
    [ Ok t ↦ replay-append gives t cs c | Err f ↦ refl ]

-- the same, where the others give a state
pub replay-append_some : {S C F : Type 0} (gives : S → C → Result S F) (s t u : S) (cs : List C) (c : C) →
    replay gives s cs ≡ Some t → gives t c ≡ Ok u → replay gives s (cs ++ c ∷ []) ≡ Some u
replay-append_some gives s t u cs c before given = rw (replay-append, before, given) refl

-- one change more keeps its own values more
pub count_kept-append : {S C O F : Type 0} (gives : S → C → Result S F) (keeps : S → C → List O) (s t : S) (cs : List C) (c : C) →
    replay gives s cs ≡ Some t → count_kept gives keeps s (cs ++ c ∷ []) ≡ count_kept gives keeps s cs + length (keeps t c)
count_kept-append {S} {C} {O} {F} gives keeps s t [] c before =
    let e : s ≡ t = cc in
    let none : option_map_or {T = S} {U = ℕ} (λ _. 0) (result_ok (gives s c)) 0 ≡ 0 =
    elim (gives s c) as (λ r. option_map_or {T = S} {U = ℕ} (λ _. 0) (result_ok r) 0 ≡ 0) [ Ok _ ↦ refl | Err _ ↦ refl ] in
    let same : length (keeps s c) ≡ length (keeps t c) = ap (λ (u : S). length (keeps u c)) e in
    omega arith
count_kept-append {S} {C} {O} {F} gives keeps s t (d ∷ cs) c before =
    let step : option_map_or {T = S} {U = ℕ} (λ u. count_kept gives keeps u (cs ++ c ∷ [])) (result_ok (gives s d)) 0 ≡
    option_map_or {T = S} {U = ℕ} (λ u. count_kept gives keeps u cs) (result_ok (gives s d)) 0 + length (keeps t c) =
    (elim (gives s d) as (λ r. option_and_then {T = S} {U = S} (λ u. replay gives u cs) (result_ok r) ≡ Some t →
    option_map_or {T = S} {U = ℕ} (λ u. count_kept gives keeps u (cs ++ c ∷ [])) (result_ok r) 0 ≡
    option_map_or {T = S} {U = ℕ} (λ u. count_kept gives keeps u cs) (result_ok r) 0 + length (keeps t c))
    [ Ok u ↦ λ h. count_kept-append gives keeps u t cs c h | Err _ ↦ λ h. absurd (cc) ]) before in
    omega arith

-- to put back two lists is to put back the second and then the first
pub put_back-append : {S O : Type 0} (put : S → O → Option S) (xs ys : List O) (s t : S) →
    put_back put ys s ≡ Some t → put_back put (xs ++ ys) s ≡ put_back put xs t
put_back-append put [] ys s t h = h
put_back-append put (x ∷ xs) ys s t h = ap (option_and_then (λ u. put u x)) (put_back-append put xs ys s t h)
