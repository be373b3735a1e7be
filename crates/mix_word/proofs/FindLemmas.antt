-- `find` gives nothing where no element passes, and else an element that passes; in a table it finds by one column what stands in another
use Rattle.std.proofs.Common.{◌≡◌, Bool, true, false, cond, List, [], ◌∷◌, map, Some, None, refl, subst, sym, ap}
use Rattle.std.specs.List.{find}
use Rattle.std.specs.Option.{option_map}

pub find-none : {X : Type 0} (p : X → Bool) (xs : List X) → ((x : X) → p x ≡ false) → find p xs ≡ None
find-none p [] h = refl
find-none p (x ∷ xs) h = rw (h x) (find-none p xs h)

pub find-passes : {X : Type 0} (p : X → Bool) (xs : List X) (y : X) → find p xs ≡ Some y → p y ≡ true
find-passes p [] y e = absurd (cc)
find-passes p (x ∷ xs) y e =
    elim (p x) as (λ b. p x ≡ b → cond b (Some x) (find p xs) ≡ Some y → p y ≡ true) [
      | true ↦ λ t q. let same : x ≡ y = cc in subst (λ (z : _). p z ≡ true) same t
      | false ↦ λ t q. find-passes p xs y q
    ] refl e

-- A table has a column f, which is the list xs, and a column g, which has h x in the row of x. The first row whose g passes a test has in its column f
-- the first x of the list whose h x passes it.
pub find-column : {R X Y : Type 0} (f : R → X) (g : R → Y) (h : X → Y) (t : Y → Bool) (rows : List R) (xs : List X) → map f rows ≡ xs → map g rows ≡ map h xs → option_map f (find (λ r. t (g r)) rows) ≡ find (λ x. t (h x)) xs
find-column f g h t [] xs same column = rw (sym same) refl
find-column f g h t (r ∷ rows) [] same column = absurd (cc)
find-column f g h t (r ∷ rows) (x ∷ xs) same column =
    let here : f r ≡ x = cc in
    let says : g r ≡ h x = cc in
    let others : map f rows ≡ xs = cc in
    let say : map g rows ≡ map h xs = cc in
    rw says
    (elim (t (h x)) as (λ b. option_map f (cond b (Some r) (find (λ y. t (g y)) rows)) ≡ cond b (Some x) (find (λ y. t (h y)) xs)) [
      | true ↦ ap Some here
      | false ↦ find-column f g h t rows xs others say
    ])
