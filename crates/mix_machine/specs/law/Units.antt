-- What is read of a unit that was written.
use Rattle.std.specs.Prelude.{ℕ, ◌+◌, ◌-◌, ◌≡◌, ◌<◌, ◌≤◌, Bool, true, ◌&&◌, nat_lt, List, length, slice_set, IsTrue}
use Rattle.std.proofs.Common.{arith}
use Rattle.std.proofs.lemmas.Bool.{and_parts}
use Rattle.std.proofs.lemmas.Bool.Decides.{nat_tests}
use Rattle.std.proofs.lemmas.List.{get_or-set_same, length-set}
use Rattle.mix_word.specs.Prelude.{WordValue, unit_count}
use Rattle.mix_machine.specs.units.UnitKind.{has_place}
use Rattle.mix_machine.specs.units.Unit.{UnitState, empty_unit, block_of, with_word, with_blocks}
use Rattle.mix_machine.specs.units.Units.{UnitsState, AreUnits, unit_of, with_unit, set_place, fits_place, set_item, fits_item, add_blocks}
use Rattle.mix_machine.specs.units.Keep.{length-units, length-with_blocks}
use Rattle.mix_machine.specs.declared.units.kind.UnitKind.TheVariants.{Tape}

pub unit-with : (us : UnitsState) (n : ℕ) (u : UnitState) → AreUnits us → n < unit_count → unit_of (with_unit us n u) n ≡ u
unit-with us n u h l = get_or-set_same us n u (empty_unit Tape) (rw (length-units us h) l)

pub is-number : (n : ℕ) (b : Bool) → IsTrue (nat_lt n unit_count && b) → n < unit_count
is-number n b f = let both = and_parts (nat_lt n unit_count) b f in grind (arith, nat_tests)

pub place-below : (us : UnitsState) (n k : ℕ) → IsTrue (fits_place us n k) → n < unit_count
place-below us n k f = grind (arith, nat_tests)

pub item-below : (us : UnitsState) (n i j : ℕ) → IsTrue (fits_item us n i j) → n < unit_count
item-below us n i j f = grind (arith, nat_tests)

-- setting a word leaves the others where they are
pub fits-item-after : (us : UnitsState) (n i j k : ℕ) (v : WordValue) → AreUnits us → IsTrue (fits_item us n i j) → IsTrue (fits_item us n i k) →
    IsTrue (fits_item (set_item us n i j v) n i k)
fits-item-after us n i j k v h f g =
    let l = item-below us n i j f in
    let same = length-set (unit_of us n).blocks i (slice_set (block_of (unit_of us n) i) j v) in
    rw (unit-with us n (with_word (unit_of us n) i j v) h l, same) g

-- and so does setting the place
pub fits-item-moved : (us : UnitsState) (n k i j : ℕ) → AreUnits us → n < unit_count → IsTrue (fits_item us n i j) →
    IsTrue (fits_item (set_place us n k) n i j)
fits-item-moved us n k i j h l f = rw (unit-with us n (record (unit_of us n) { place = k }) h l) f

-- the place after a block that was appended
pub fits-place-grown : (us : UnitsState) (n block : ℕ) (words : List WordValue) → AreUnits us → n < unit_count → has_place (unit_of us n).kind ≡ true →
    length (unit_of us n).blocks ≤ block →
    IsTrue (fits_place (add_blocks us n (block - length (unit_of us n).blocks) words) n (block + 1))
fits-place-grown us n block words h l p le =
    let u = unit_of us n in
    let gap = block - length u.blocks in
    let more = length-with_blocks u gap words in
    rw (unit-with us n (with_blocks u gap words) h l) (grind (arith, nat_tests))
