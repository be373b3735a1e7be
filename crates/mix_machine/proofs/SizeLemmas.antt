-- How many values units say at most: with each that is taken off, fewer.
use Rattle.std.proofs.Common.{Bool, ℕ, zero, suc, true, false, cond, nat_eq, nat_lt, ◌≡◌, ◌+◌, ◌-◌, ◌*◌, ◌/◌, ◌%◌, ◌<◌, ◌≤◌, ◌^◌, List, [], ◌∷◌, ◌++◌, length, reverse, Option, Some, None, MatchOption, refl, ap, ◌∙◌, subst, arith}
use Rattle.std.specs.Option.{option_map_or, option_and_then}
use Rattle.std.proofs.lemmas.Bool.Decides.{nat_tests}
use Rattle.std.proofs.lemmas.List.{length-reverse}
use Rattle.std.proofs.lemmas.Nat.{mod-mul-add, div-mul-add}
use Rattle.undo_core.specs.Pack.{unit_list}
use Rattle.mix_machine.specs.Prelude.{Old, Anchor, Kind}
use Rattle.mix_machine.specs.declared.old.Old.TheVariants as old
use Rattle.mix_machine.specs.declared.pack.kind.Kind.TheVariants as kind
use Rattle.mix_machine.specs.Pack.{LastValue, kind_number, header_of, kind_of, last_of, in_one, in_two, in_three, wide_bits, time_of, shorter_row, last_cell, moment_value, whole_value, jump_value, short_value, store_value, value_by, last_value, values_before}

-- how many values at most a header says, and units
abbrev tall_by : Kind → ℕ → ℕ
tall_by kind.Moment n = 2
tall_by kind.WholeMoment n = 2
tall_by kind.Jump n = cond (nat_eq (n % 2) 0) 3 2
tall_by kind.Short n = cond (nat_eq (n / 16 % 2) 0) 3 2
tall_by kind.Store n = cond (nat_eq (n % 2) 0) 3 2
tall_by _ n = 1

abbrev tall_of : Option Kind → ℕ → ℕ
tall_of None n = 1
tall_of (Some k) n = tall_by k n

abbrev tall : ℕ → ℕ
tall header = tall_of (kind_of header) (header / 16)

abbrev size : List ℕ → ℕ
size [] = 0
size (header ∷ us) = tall header + size us

tall-bit : (b : Bool) → (1 ≤ cond b 3 2) × (cond b 3 2 ≤ 3)
tall-bit true = (omega arith, omega arith)
tall-bit false = (omega arith, omega arith)

tall-bounds-by : (k : Kind) (n : ℕ) → (1 ≤ tall_by k n) × (tall_by k n ≤ 3)
tall-bounds-by kind.Location n = (omega arith, omega arith)
tall-bounds-by kind.Clock n = (omega arith, omega arith)
tall-bounds-by kind.Register n = (omega arith, omega arith)
tall-bounds-by kind.Row n = (omega arith, omega arith)
tall-bounds-by kind.Moment n = (omega arith, omega arith)
tall-bounds-by kind.LongRegister n = (omega arith, omega arith)
tall-bounds-by kind.Indicator n = (omega arith, omega arith)
tall-bounds-by kind.Store n = tall-bit (nat_eq (n % 2) 0)
tall-bounds-by kind.Breakpoint n = (omega arith, omega arith)
tall-bounds-by kind.UnitPlace n = (omega arith, omega arith)
tall-bounds-by kind.UnitLength n = (omega arith, omega arith)
tall-bounds-by kind.UnitItem n = (omega arith, omega arith)
tall-bounds-by kind.UnitTime n = (omega arith, omega arith)
tall-bounds-by kind.WholeMoment n = (omega arith, omega arith)
tall-bounds-by kind.Jump n = tall-bit (nat_eq (n % 2) 0)
tall-bounds-by kind.Short n = tall-bit (nat_eq (n / 16 % 2) 0)

tall-bounds-of : (k : Option Kind) (n : ℕ) → (1 ≤ tall_of k n) × (tall_of k n ≤ 3)
tall-bounds-of None n = (omega arith, omega arith)
tall-bounds-of (Some k) n = tall-bounds-by k n

tall-bounds : (header : ℕ) → (1 ≤ tall header) × (tall header ≤ 3)
tall-bounds header = tall-bounds-of (kind_of header) (header / 16)

size-bound : (us : List ℕ) → size us ≤ 3 * length us
size-bound [] = omega arith
size-bound (u ∷ us) = let next = size-bound us in let one = (tall-bounds u).1 in omega (arith, next, one)

-- a header says its kind and its payload
kind-of-header : (k : Kind) (n : ℕ) → kind_of (header_of k n) ≡ Some k
kind-of-header kind.Location n = rw (mod-mul-add n 16 0 (omega arith)) refl
kind-of-header kind.Clock n = rw (mod-mul-add n 16 1 (omega arith)) refl
kind-of-header kind.Register n = rw (mod-mul-add n 16 2 (omega arith)) refl
kind-of-header kind.Row n = rw (mod-mul-add n 16 3 (omega arith)) refl
kind-of-header kind.Moment n = rw (mod-mul-add n 16 4 (omega arith)) refl
kind-of-header kind.LongRegister n = rw (mod-mul-add n 16 5 (omega arith)) refl
kind-of-header kind.Indicator n = rw (mod-mul-add n 16 6 (omega arith)) refl
kind-of-header kind.Store n = rw (mod-mul-add n 16 7 (omega arith)) refl
kind-of-header kind.Breakpoint n = rw (mod-mul-add n 16 8 (omega arith)) refl
kind-of-header kind.UnitPlace n = rw (mod-mul-add n 16 9 (omega arith)) refl
kind-of-header kind.UnitLength n = rw (mod-mul-add n 16 10 (omega arith)) refl
kind-of-header kind.UnitItem n = rw (mod-mul-add n 16 11 (omega arith)) refl
kind-of-header kind.UnitTime n = rw (mod-mul-add n 16 12 (omega arith)) refl
kind-of-header kind.WholeMoment n = rw (mod-mul-add n 16 13 (omega arith)) refl
kind-of-header kind.Jump n = rw (mod-mul-add n 16 14 (omega arith)) refl
kind-of-header kind.Short n = rw (mod-mul-add n 16 15 (omega arith)) refl

number-below : (k : Kind) → kind_number k < 16
number-below kind.Location = omega arith
number-below kind.Clock = omega arith
number-below kind.Register = omega arith
number-below kind.Row = omega arith
number-below kind.Moment = omega arith
number-below kind.LongRegister = omega arith
number-below kind.Indicator = omega arith
number-below kind.Store = omega arith
number-below kind.Breakpoint = omega arith
number-below kind.UnitPlace = omega arith
number-below kind.UnitLength = omega arith
number-below kind.UnitItem = omega arith
number-below kind.UnitTime = omega arith
number-below kind.WholeMoment = omega arith
number-below kind.Jump = omega arith
number-below kind.Short = omega arith

payload-of-header : (k : Kind) (n : ℕ) → header_of k n / 16 ≡ n
payload-of-header k n = div-mul-add n 16 (kind_number k) (number-below k)

pub last-header : (k : Kind) (n : ℕ) (a : Anchor) (us : List ℕ) → last_value a (header_of k n ∷ us) ≡ value_by k n a us
last-header k n a us =
    ap (λ o. option_and_then (λ j. value_by j (header_of k n / 16) a us) o) (kind-of-header k n) ∙ ap (λ m. value_by k m a us) (payload-of-header k n)

tall-header : (k : Kind) (n : ℕ) → tall (header_of k n) ≡ tall_by k n
tall-header k n = ap (λ o. tall_of o (header_of k n / 16)) (kind-of-header k n) ∙ ap (λ m. tall_by k m) (payload-of-header k n)

-- fewer values are left than the units say with the header
abbrev Shrinks : ℕ → Option LastValue → Type 0
Shrinks n last = MatchOption last (Unit {0}) (λ l. size l.before < n)

shrinks-one : (v : Option Old) (a : Anchor) (us : List ℕ) (n : ℕ) → size us < n → Shrinks n (in_one v a us)
shrinks-one None a us n h = tt
shrinks-one (Some v) a us n h = h

shrinks-two : (says : ℕ → Option Old) (a : Anchor) (us : List ℕ) → Shrinks (1 + size us) (in_two says a us)
shrinks-two says a [] = tt
shrinks-two says a (one ∷ us) = shrinks-one (says one) a us (1 + size (one ∷ us)) (omega arith)

shrinks-three : (says : ℕ → ℕ → Option Old) (a : Anchor) (us : List ℕ) → Shrinks (1 + size us) (in_three says a us)
shrinks-three says a [] = tt
shrinks-three says a (two ∷ []) = tt
shrinks-three says a (two ∷ one ∷ us) = shrinks-one (says one two) a us (1 + size (two ∷ one ∷ us)) (omega arith)

shrinks-cell : (more : Option ℕ) (v : Option Old) (a : Anchor) (w : ℕ) (us : List ℕ) → MatchOption more (Unit {0}) (λ h. tall h ≡ 1) →
    Shrinks (1 + size (w ∷ us)) (in_one v a (unit_list more ++ us))
shrinks-cell None v a w us h = shrinks-one v a us (1 + size (w ∷ us)) (omega arith)
shrinks-cell (Some header) v a w us h =
    shrinks-one v a (header ∷ us) (1 + size (w ∷ us)) (let some = (tall-bounds w).0 in omega (arith, h, some))

shorter-tall : (b : Bool) (n : ℕ) → MatchOption (cond b None (Some (header_of kind.Row n))) (Unit {0}) (λ h. tall h ≡ 1)
shorter-tall true n = tt
shorter-tall false n = tall-header kind.Row n

shrinks-row : (n : ℕ) (a : Anchor) (us : List ℕ) → Shrinks (1 + size us) (last_cell n a us)
shrinks-row n a [] = tt
shrinks-row n a (w ∷ us) = shrinks-cell (shorter_row n) _ a w us (shorter-tall (nat_lt n (2 * 4096)) (n - 4097))

shrinks-moment : (n : ℕ) (a : Anchor) (us : List ℕ) → Shrinks (2 + size us) (moment_value n a us)
shrinks-moment n a us = let one = tall-header kind.Location (n % 4096) in omega (arith, one)

shrinks-whole : (n : ℕ) (us : List ℕ) → Shrinks (2 + size us) (whole_value n us)
shrinks-whole n [] = tt
shrinks-whole n (one ∷ []) = tt
shrinks-whole n (one ∷ two ∷ []) = tt
shrinks-whole n (one ∷ two ∷ three ∷ []) = tt
shrinks-whole n (one ∷ two ∷ three ∷ four ∷ us) = let lone = tall-header kind.Location (n % 4096) in omega (arith, lone)

pub next-even : (n : ℕ) → nat_eq (n % 2) 0 ≡ true → nat_eq ((n + 1) % 2) 0 ≡ false
next-even n e = let even : n % 2 ≡ 0 = grind (arith, nat_tests) in let odd : (n + 1) % 2 ≡ 1 = omega (arith, even) in rw odd refl

next-short : (n : ℕ) → nat_eq (n / 16 % 2) 0 ≡ true → nat_eq ((n + 16) / 16 % 2) 0 ≡ false
next-short n e =
    let even : n / 16 % 2 ≡ 0 = grind (arith, nat_tests) in let odd : (n + 16) / 16 % 2 ≡ 1 = omega (arith, even) in rw odd refl

shrinks-jump : (b : Bool) (n : ℕ) (a : Anchor) (us : List ℕ) → nat_eq (n % 2) 0 ≡ b → Shrinks (cond b 3 2 + size us) (jump_value b n a us)
shrinks-jump true n a us e =
    let two : tall (header_of kind.Jump (n + 1)) ≡ 2 = tall-header kind.Jump (n + 1) ∙ ap (λ b. cond b 3 2) (next-even n e) in omega (arith, two)
shrinks-jump false n a us e = let one = tall-header kind.Register (wide_bits 4096 (n / 8192) * 16 + 8) in omega (arith, one)

shrinks-short : (b : Bool) (n : ℕ) (a : Anchor) (us : List ℕ) → nat_eq (n / 16 % 2) 0 ≡ b → Shrinks (cond b 3 2 + size us) (short_value b n a us)
shrinks-short true n a us e =
    let two : tall (header_of kind.Short (n + 16)) ≡ 2 = tall-header kind.Short (n + 16) ∙ ap (λ b. cond b 3 2) (next-short n e) in omega (arith, two)
shrinks-short false n a us e = let one = tall-header kind.Register (wide_bits (2 ^ 22) (n / 32) * 16 + n % 8) in omega (arith, one)

shrinks-store : (b : Bool) (n : ℕ) (a : Anchor) (us : List ℕ) → nat_eq (n % 2) 0 ≡ b → Shrinks (cond b 3 2 + size us) (store_value b n a us)
shrinks-store true n a us e =
    let two : tall (header_of kind.Store (n + 1)) ≡ 2 = tall-header kind.Store (n + 1) ∙ ap (λ b. cond b 3 2) (next-even n e) in omega (arith, two)
shrinks-store false n a us e = let one = tall-header kind.Row (4096 + n / 2 % 4096) in omega (arith, one)

shrinks-by : (k : Kind) (n : ℕ) (a : Anchor) (us : List ℕ) → Shrinks (tall_by k n + size us) (value_by k n a us)
shrinks-by kind.Location n a us = omega arith
shrinks-by kind.Clock n a us = shrinks-three (λ low high. Some (old.Clock (time_of low high))) a us
shrinks-by kind.Register n a us = shrinks-one _ a us (1 + size us) (omega arith)
shrinks-by kind.Row n a us = shrinks-row n a us
shrinks-by kind.Moment n a us = shrinks-moment n a us
shrinks-by kind.LongRegister n a us = shrinks-two _ a us
shrinks-by kind.Indicator n a us = omega arith
shrinks-by kind.Store n a us = shrinks-store (nat_eq (n % 2) 0) n a us refl
shrinks-by kind.Breakpoint n a us = shrinks-one _ a us (1 + size us) (omega arith)
shrinks-by kind.UnitPlace n a us = shrinks-one _ a us (1 + size us) (omega arith)
shrinks-by kind.UnitLength n a us = shrinks-one _ a us (1 + size us) (omega arith)
shrinks-by kind.UnitItem n a us = shrinks-three _ a us
shrinks-by kind.UnitTime n a us = shrinks-three _ a us
shrinks-by kind.WholeMoment n a us = shrinks-whole n us
shrinks-by kind.Jump n a us = shrinks-jump (nat_eq (n % 2) 0) n a us refl
shrinks-by kind.Short n a us = shrinks-short (nat_eq (n / 16 % 2) 0) n a us refl

shrinks-kind : (k : Option Kind) (n : ℕ) (a : Anchor) (us : List ℕ) → Shrinks (tall_of k n + size us) (option_and_then (λ k. value_by k n a us) k)
shrinks-kind None n a us = tt
shrinks-kind (Some k) n a us = shrinks-by k n a us

shrinks : (unit : ℕ) (a : Anchor) (us : List ℕ) → Shrinks (size (unit ∷ us)) (last_value a (unit ∷ us))
shrinks unit a us = shrinks-kind (kind_of unit) (unit / 16) a us

-- how many values are asked for does not matter, where they are as many as the units say
same-step : (m n bound : ℕ) → ((a : Anchor) (us : List ℕ) → size us ≤ m → size us ≤ n → values_before m a us ≡ values_before n a us) →
    (last : Option LastValue) → Shrinks bound last → bound ≤ suc m → bound ≤ suc n →
    option_map_or (λ l. values_before m l.anchor l.before ++ l.value ∷ []) last [] ≡ option_map_or (λ l. values_before n l.anchor l.before ++ l.value ∷ []) last []
same-step m n bound next None s h g = refl
same-step m n bound next (Some l) s h g = ap (λ vs. vs ++ l.value ∷ []) (next l.anchor l.before (omega arith) (omega arith))

same-values : (m n : ℕ) (a : Anchor) (us : List ℕ) → size us ≤ m → size us ≤ n → values_before m a us ≡ values_before n a us
same-values zero zero a us h g = refl
same-values zero (suc n) a [] h g = refl
same-values zero (suc n) a (u ∷ us) h g = absurd (let some = (tall-bounds u).0 in omega (arith, some))
same-values (suc m) zero a [] h g = refl
same-values (suc m) zero a (u ∷ us) h g = absurd (let some = (tall-bounds u).0 in omega (arith, some))
same-values (suc m) (suc n) a [] h g = refl
same-values (suc m) (suc n) a (u ∷ us) h g =
    same-step m n (size (u ∷ us)) (λ b vs i j. same-values m n b vs i j) (last_value a (u ∷ us)) (shrinks u a us) h g

pub values-step : (m n : ℕ) (a b : Anchor) (us before : List ℕ) (v : Old) → size us ≤ m → size before ≤ n → last_value a us ≡ Some (last_of v b before) →
    values_before m a us ≡ values_before n b before ++ v ∷ []
values-step m n a b [] before v h g e = absurd (cc)
values-step zero n a b (u ∷ us) before v h g e = absurd (let some = (tall-bounds u).0 in omega (arith, some))
values-step (suc m) n a b (u ∷ us) before v h g e =
    let fewer : Shrinks (size (u ∷ us)) (Some (last_of v b before)) = subst (Shrinks (size (u ∷ us))) e (shrinks u a us) in
    ap (λ last. option_map_or (λ l. values_before m l.anchor l.before ++ l.value ∷ []) last []) e
    ∙ ap (λ vs. vs ++ v ∷ []) (same-values m n b before (omega arith) g)

pub none-values : (most : ℕ) (a : Anchor) (us : List ℕ) → last_value a us ≡ None → values_before most a us ≡ []
none-values zero a us e = refl
none-values (suc most) a us e = ap (λ last. option_map_or (λ l. values_before most l.anchor l.before ++ l.value ∷ []) last []) e

pub size-of : (units : List ℕ) → size (reverse units) ≤ 3 * length units
size-of units = let bound = size-bound (reverse units) in let len = length-reverse units in omega (arith, bound, len)
