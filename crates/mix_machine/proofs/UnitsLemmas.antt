-- One unit of the list written.
use Rattle.std.proofs.Common.{ℕ, ◌≡◌, ◌<◌, ◌≤◌, ◌∙◌, IsTrue, List, [], ◌∷◌, length, map, take, set, get_or, Result, Ok, Err, OnOk, OnErr, ap, refl, arith}
use Rattle.std.proofs.lemmas.Bool.Decides.{nat_tests}
use Rattle.std.proofs.lemmas.List.{get_or_read, set-get_or, take_all}
use Rattle.mix_word.specs.Uses.{unit_count}
use Rattle.mix_machine.specs.Prelude.{kinds, block_length, UnitState, IsUnit, empty_unit, length-units, UnitKind, Tape}
use Rattle.mix_machine.specs.units.Units.{UnitsState, AllUnits, AreUnits, empty_units, fits_item, unit_of, with_unit}

-- the units with nothing in them
is-empty : (kind : UnitKind) → IsUnit (empty_unit kind)
is-empty kind = record { place = omega arith; blocks = omega arith; rows = omega arith; delay = omega arith; until = omega arith }

all-empty : (ks : List UnitKind) → AllUnits (map empty_unit ks)
all-empty [] = tt
all-empty (k ∷ ks) = (is-empty k, all-empty ks)

pub are-empty : AreUnits empty_units
are-empty = record { kinds = refl; all = all-empty kinds }

pub all-pushed : (n : ℕ) (us : UnitsState) → unit_count ≤ n → us ≡ map empty_unit (take n kinds) → us ≡ empty_units
all-pushed n us h e = e ∙ ap (map empty_unit) (take_all n kinds h)

pub unit-read : (us : UnitsState) (n at : ℕ) (v : UnitState) → AreUnits us → at ≡ n → at < unit_count → v ≡ get_or us at v → v ≡ unit_of us n
unit-read us n at v h e l r =
    get_or_read us at v (rw (length-units us h) l) r (empty_unit Tape) ∙ ap (unit_of us) e

-- where a word is that can be set
pub item-block : (us : UnitsState) (n i j : ℕ) → IsTrue (fits_item us n i j) → i < length (unit_of us n).blocks
item-block us n i j f = grind (arith, nat_tests)

pub item-word : (us : UnitsState) (n i j : ℕ) → IsTrue (fits_item us n i j) → j < block_length (unit_of us n).kind
item-word us n i j f = grind (arith, nat_tests)

-- a unit that was read, altered and written back
pub keep-written : (us : UnitsState) (n at : ℕ) (v u : UnitState) (f : UnitState → UnitState) → AreUnits us →
    AreUnits (with_unit us n (f (unit_of us n))) → at ≡ n → at < unit_count → v ≡ get_or us at v → u ≡ f v → AreUnits (set us at u)
keep-written us n at v u f h k e l r w = rw (w, unit-read us n at v h e l r, e) k

-- and what it is then
pub unit-written : (us w : UnitsState) (n at : ℕ) (v u : UnitState) (f : UnitState → UnitState) → us ≡ w → AreUnits us → at ≡ n → at < unit_count →
    v ≡ get_or us at v → u ≡ f v → set us at u ≡ with_unit w n (f (unit_of w n))
unit-written us w n at v u f ew h e l r eu = rw (eu, unit-read us n at v h e l r, e, ew) refl

-- or left as it was, where there was no memory
pub keep-grown : {T E : Type 0} (us : UnitsState) (n at : ℕ) (v u : UnitState) (f : UnitState → UnitState) (result : Result T E) → AreUnits us →
    AreUnits (with_unit us n (f (unit_of us n))) → at ≡ n → at < unit_count → v ≡ get_or us at v → OnOk result (u ≡ f v) → OnErr result (u ≡ v) →
    AreUnits (set us at u)
keep-grown us n at v u f (Ok x) h k e l r w s = keep-written us n at v u f h k e l r w
keep-grown us n at v u f (Err x) h k e l r w s =
    rw (s, unit-read us n at v h e l r, e) (rw (set-get_or us n (empty_unit Tape)) h)
