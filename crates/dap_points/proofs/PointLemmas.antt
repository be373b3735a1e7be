-- Facts of the cells of breakpoints.
use Rattle.std.proofs.Common.{◌≡◌, ℕ, zero, suc, ◌+◌, ◌-◌, ◌<◌, Bool, true, false, List, [], ◌∷◌, ◌++◌, length, get_or, slice_set, take, drop, map, refl, ap, sym, ◌∙◌, arith, add-one, if◌then◌else◌}
use Rattle.std.proofs.lemmas.List.{length-map}
use Rattle.mix_machine.specs.World.{WorldState}
use Rattle.dap_points.specs.Breakpoint.{arrives, with_arrival}
use Rattle.dap_points.specs.Points.{cells_of}
use Rattle.dap_points.specs.declared.points.breakpoint.Breakpoint.{Breakpoint}

cell-stays : (t : Bool) (b : Breakpoint) (n : ℕ) → (if t then record b { left = n } else b).cell ≡ b.cell
cell-stays true b n = refl
cell-stays false b n = refl

all-stay : (w : WorldState) (xs : List Breakpoint) → cells_of (map (with_arrival w) xs) ≡ cells_of xs
all-stay w [] = refl
all-stay w (x ∷ xs) = rw (cell-stays (arrives w x) x (x.left - 1), all-stay w xs) refl

both-stay : (w : WorldState) (xs ys : List Breakpoint) → cells_of (map (with_arrival w) xs ++ map (with_arrival w) ys) ≡ cells_of (xs ++ ys)
both-stay w [] ys = all-stay w ys
both-stay w (x ∷ xs) ys = rw (cell-stays (arrives w x) x (x.left - 1), both-stay w xs ys) refl

-- arrivals leave them
cells_stay : (w : WorldState) (cells : List ℕ) (xs ys lines instructions : List Breakpoint) → cells ≡ cells_of (xs ++ ys) → lines ≡ map (with_arrival w) xs
    → instructions ≡ map (with_arrival w) ys → cells ≡ cells_of (lines ++ instructions)
cells_stay w cells xs ys lines instructions is first second = rw (first, second) (is ∙ sym (both-stay w xs ys))

-- those of some breakpoints and of others
both-cells : (xs ys : List Breakpoint) → cells_of xs ++ cells_of ys ≡ cells_of (xs ++ ys)
both-cells [] ys = refl
both-cells (x ∷ xs) ys = ap (λ t. x.cell ∷ t) (both-cells xs ys)

pub cells_joined : (none some all : List ℕ) (xs ys : List Breakpoint) → none ≡ [] → some ≡ none ++ cells_of xs → all ≡ some ++ cells_of ys
    → all ≡ cells_of (xs ++ ys)
cells_joined none some all xs ys empty first second = second ∙ ap (λ t. t ++ cells_of ys) (first ∙ ap (λ t. t ++ cells_of xs) empty) ∙ both-cells xs ys

-- ---- one element more of a list is made anew

next_made : {X : Type 0} (f : X → X) (old : List X) (i : ℕ) (d : X) → i < length old
    → slice_set (map f (take i old) ++ drop i old) i (f (get_or (map f (take i old) ++ drop i old) i d)) ≡ map f (take (suc i) old) ++ drop (suc i) old
next_made f [] i d within = absurd (omega (arith, within))
next_made f (y ∷ old) zero d within = refl
next_made f (y ∷ old) (suc i) d within = ap (λ t. f y ∷ t) (next_made f old i d (omega (arith, within)))

pub made_too : {X : Type 0} (f : X → X) (old new : List X) (i : ℕ) (d y : X) → i < length old → new ≡ map f (take i old) ++ drop i old → y ≡ f (get_or new i d)
    → slice_set new i y ≡ map f (take (i + 1) old) ++ drop (i + 1) old
made_too f old new i d y within so_far made =
    ap (λ l. slice_set l i y) so_far
    ∙ ap (λ z. slice_set (map f (take i old) ++ drop i old) i z) (made ∙ ap (λ l. f (get_or l i d)) so_far)
    ∙ next_made f old i d within
    ∙ ap (λ k. map f (take k old) ++ drop k old) (sym (add-one i))

-- ---- a list that was written back

front : {X : Type 0} (xs ys : List X) → take (length xs) (xs ++ ys) ≡ xs
front [] ys = refl
front (x ∷ xs) ys = ap (λ t. x ∷ t) (front xs ys)

whole : (w : WorldState) (n : ℕ) (xs slice made more : List Breakpoint) → slice ≡ xs → length slice ≡ n → made ≡ map (with_arrival w) slice
    → take n (made ++ more) ≡ map (with_arrival w) xs
whole w n xs slice made more is long made_is =
    ap (λ k. take k (made ++ more)) (sym (ap length made_is ∙ length-map slice (with_arrival w) ∙ long)) ∙ front made more ∙ made_is ∙ ap (map (with_arrival w)) is

pub counted_stay : (w : WorldState) (cells : List ℕ) (n m : ℕ) (xs ys first second lines instructions more others : List Breakpoint) → cells ≡ cells_of (xs ++ ys)
    → first ≡ xs → length first ≡ n → lines ≡ map (with_arrival w) first → second ≡ ys → length second ≡ m → instructions ≡ map (with_arrival w) second
    → cells ≡ cells_of (take n (lines ++ more) ++ take m (instructions ++ others))
counted_stay w cells n m xs ys first second lines instructions more others is first_is first_long lines_is second_is second_long instructions_is =
    cells_stay w cells xs ys _ _ is (whole w n xs first lines more first_is first_long lines_is) (whole w m ys second instructions others second_is second_long instructions_is)
