-- What is written keeps the units in their ranges.
use Rattle.std.specs.Prelude.{◌≡◌, ◌<◌, ◌≤◌, ℕ, zero, suc, ◌+◌, ◌/◌, Bool, true, false, ◌&&◌, cond, nat_le, nat_lt, List, [], ◌∷◌, length, map, take, drop, slice_set, IsTrue, refl}
use Rattle.std.proofs.Common.{ap, sym, ◌∙◌, arith, length-append, length-take}
use Rattle.std.proofs.lemmas.Bool.{and_parts}
use Rattle.std.proofs.lemmas.Bool.Decides.{nat_tests}
use Rattle.std.proofs.lemmas.List.{length-map, length-set, length-replicate}
use Rattle.mix_word.specs.Prelude.{WordValue, unit_count}
use Rattle.mix_machine.specs.units.UnitKind.{block_length, has_medium, has_output}
use Rattle.mix_machine.specs.units.Row.{RowState}
use Rattle.mix_machine.specs.units.Unit.{UnitState, IsUnit, block_of, with_word, with_blocks, with_row, filled, blocks_in, most_entries, last_delay, last_until}
use Rattle.mix_machine.specs.units.Units.{UnitsState, AllUnits, AreUnits, unit_of, with_unit, set_place, fits_place, cut_to, can_cut, set_length, fits_length, set_item, fits_item, set_until, fits_until, add_blocks, add_row, set_delay, fill}

pub is-with_place : (u : UnitState) (k : ℕ) → IsUnit u → k ≤ length u.blocks → IsUnit (record u { place = k })
is-with_place u k h le = record { place = le; blocks = h.blocks; rows = h.rows; delay = h.delay; until = h.until }

pub is-with_until : (u : UnitState) (t : ℕ) → IsUnit u → t ≤ last_until → IsUnit (record u { until = t })
is-with_until u t h le = record { place = h.place; blocks = h.blocks; rows = h.rows; delay = h.delay; until = le }

pub is-with_word : (u : UnitState) (i j : ℕ) (v : WordValue) → IsUnit u → IsUnit (with_word u i j v)
is-with_word u i j v h =
    let same = length-set u.blocks i (slice_set (block_of u i) j v) in
    record { place = rw same h.place; blocks = rw same h.blocks; rows = h.rows; delay = h.delay; until = h.until }

pub length-with_blocks : (u : UnitState) (n : ℕ) (block : List WordValue) → length (with_blocks u n block).blocks ≡ length u.blocks + n + 1
length-with_blocks u n block = simp (length-append, length-replicate) refl

pub is-with_blocks : (u : UnitState) (n : ℕ) (block : List WordValue) → IsUnit u → length u.blocks + n < most_entries →
    IsUnit (with_blocks u n block)
is-with_blocks u n block h lt =
    let more = length-with_blocks u n block in
    let place = h.place in
    record { place = omega arith; blocks = omega arith; rows = h.rows; delay = h.delay; until = h.until }

pub is-with_row : (u : UnitState) (row : RowState) → IsUnit u → length u.rows < most_entries → IsUnit (with_row u row)
is-with_row u row h lt =
    let more = length-append u.rows (row ∷ []) in
    record { place = h.place; blocks = h.blocks; rows = omega arith; delay = h.delay; until = h.until }

is-cut-rows : (u : UnitState) (k : ℕ) (b : Bool) → IsUnit u → IsTrue (b && nat_le k (length u.rows)) →
    IsUnit (cond b (record u { rows = take k u.rows }) u)
is-cut-rows u k true h c =
    let fewer = length-take k u.rows in
    let most = h.rows in
    record { place = h.place; blocks = h.blocks; rows = omega arith; delay = h.delay; until = h.until }
is-cut-rows u k false h c = h

is-cut-either : (u : UnitState) (k : ℕ) (m o : Bool) → IsUnit u →
    IsTrue (cond m (nat_le k (length u.blocks) && nat_le u.place k) (o && nat_le k (length u.rows))) →
    IsUnit (cond m (record u { blocks = take k u.blocks }) (cond o (record u { rows = take k u.rows }) u))
is-cut-either u k true o h c =
    let fewer = length-take k u.blocks in
    let most = h.blocks in
    record { place = grind (arith, nat_tests); blocks = omega arith; rows = h.rows; delay = h.delay; until = h.until }
is-cut-either u k false o h c = is-cut-rows u k o h c

pub is-cut : (u : UnitState) (k : ℕ) → IsUnit u → IsTrue (can_cut k u) → IsUnit (cut_to k u)
is-cut u k h c = is-cut-either u k (has_medium u.kind) (has_output u.kind) h c

-- how many units there are
pub length-units : (us : UnitsState) → AreUnits us → length us ≡ unit_count
length-units us h = sym (length-map us (λ u. u.kind)) ∙ ap length h.kinds

all-at : (us : UnitsState) (n : ℕ) → AllUnits us → n < length us → IsUnit (unit_of us n)
all-at [] n h l = absurd (omega arith)
all-at (u ∷ us) zero h l = h.0
all-at (u ∷ us) (suc n) h l = all-at us n h.1 (omega arith)

pub is-unit-at : (us : UnitsState) (n : ℕ) → AreUnits us → n < unit_count → IsUnit (unit_of us n)
is-unit-at us n h l = all-at us n h.all (rw (length-units us h) l)

all-with : (us : UnitsState) (n : ℕ) (u : UnitState) → AllUnits us → IsUnit u → AllUnits (with_unit us n u)
all-with [] n u h i = h
all-with (v ∷ us) zero u h i = (i, h.1)
all-with (v ∷ us) (suc n) u h i = (h.0, all-with us n u h.1 i)

kinds-with : (us : UnitsState) (n : ℕ) (u : UnitState) → u.kind ≡ (unit_of us n).kind →
    map (λ v. v.kind) (with_unit us n u) ≡ map (λ v. v.kind) us
kinds-with [] n u e = refl
kinds-with (v ∷ us) zero u e = ap (λ k. k ∷ map (λ v. v.kind) us) e
kinds-with (v ∷ us) (suc n) u e = ap (λ ks. v.kind ∷ ks) (kinds-with us n u e)

pub keep-with_unit : (us : UnitsState) (n : ℕ) (u : UnitState) → AreUnits us → IsUnit u → u.kind ≡ (unit_of us n).kind →
    AreUnits (with_unit us n u)
keep-with_unit us n u h i e = record { kinds = kinds-with us n u e ∙ h.kinds; all = all-with us n u h.all i }

kind-cut-either : (u : UnitState) (k : ℕ) (m o : Bool) →
    (cond m (record u { blocks = take k u.blocks }) (cond o (record u { rows = take k u.rows }) u)).kind ≡ u.kind
kind-cut-either u k true o = refl
kind-cut-either u k false true = refl
kind-cut-either u k false false = refl

pub kind-cut : (u : UnitState) (k : ℕ) → (cut_to k u).kind ≡ u.kind
kind-cut u k = kind-cut-either u k (has_medium u.kind) (has_output u.kind)

pub keep-set_place : (us : UnitsState) (n k : ℕ) → AreUnits us → IsTrue (fits_place us n k) → AreUnits (set_place us n k)
keep-set_place us n k h f =
    let l : n < unit_count = grind (arith, nat_tests) in
    keep-with_unit us n _ h (is-with_place (unit_of us n) k (is-unit-at us n h l) (grind (arith, nat_tests))) refl

pub keep-set_length : (us : UnitsState) (n k : ℕ) → AreUnits us → IsTrue (fits_length us n k) → AreUnits (set_length us n k)
keep-set_length us n k h f =
    let both = and_parts (nat_lt n unit_count) (can_cut k (unit_of us n)) f in
    let l : n < unit_count = grind (arith, nat_tests) in
    keep-with_unit us n _ h (is-cut (unit_of us n) k (is-unit-at us n h l) both.1) (kind-cut (unit_of us n) k)

pub keep-set_item : (us : UnitsState) (n i j : ℕ) (v : WordValue) → AreUnits us → IsTrue (fits_item us n i j) →
    AreUnits (set_item us n i j v)
keep-set_item us n i j v h f =
    let l : n < unit_count = grind (arith, nat_tests) in
    keep-with_unit us n _ h (is-with_word (unit_of us n) i j v (is-unit-at us n h l)) refl

pub keep-set_until : (us : UnitsState) (n t : ℕ) → AreUnits us → IsTrue (fits_until n t) → AreUnits (set_until us n t)
keep-set_until us n t h f =
    let l : n < unit_count = grind (arith, nat_tests) in
    keep-with_unit us n _ h (is-with_until (unit_of us n) t (is-unit-at us n h l) (grind (arith, nat_tests))) refl

pub keep-add_blocks : (us : UnitsState) (n gap : ℕ) (block : List WordValue) → AreUnits us → n < unit_count →
    length (unit_of us n).blocks + gap < most_entries → AreUnits (add_blocks us n gap block)
keep-add_blocks us n gap block h l lt =
    keep-with_unit us n _ h (is-with_blocks (unit_of us n) gap block (is-unit-at us n h l) lt) refl

pub keep-add_row : (us : UnitsState) (n : ℕ) (row : RowState) → AreUnits us → n < unit_count → length (unit_of us n).rows < most_entries →
    AreUnits (add_row us n row)
keep-add_row us n row h l lt = keep-with_unit us n _ h (is-with_row (unit_of us n) row (is-unit-at us n h l) lt) refl

pub is-with_delay : (u : UnitState) (t : ℕ) → IsUnit u → t ≤ last_delay → IsUnit (record u { delay = t })
is-with_delay u t h le = record { place = h.place; blocks = h.blocks; rows = h.rows; delay = le; until = h.until }

length-blocks : (n size : ℕ) (words : List WordValue) → length (blocks_in n size words) ≡ n
length-blocks zero size words = refl
length-blocks (suc n) size words = ap suc (length-blocks n size (drop size words))

pub is-filled : (u : UnitState) (words : List WordValue) → IsUnit u → length words / block_length u.kind ≤ most_entries → IsUnit (filled u words)
is-filled u words h le =
    let count = length-blocks (length words / block_length u.kind) (block_length u.kind) words in
    record { place = omega arith; blocks = rw count le; rows = h.rows; delay = h.delay; until = h.until }

pub keep-set_delay : (us : UnitsState) (n t : ℕ) → AreUnits us → n < unit_count → t ≤ last_delay → AreUnits (set_delay us n t)
keep-set_delay us n t h l le = keep-with_unit us n _ h (is-with_delay (unit_of us n) t (is-unit-at us n h l) le) refl

pub keep-fill : (us : UnitsState) (n : ℕ) (words : List WordValue) → AreUnits us → n < unit_count →
    length words / block_length (unit_of us n).kind ≤ most_entries → AreUnits (fill us n words)
keep-fill us n words h l le = keep-with_unit us n _ h (is-filled (unit_of us n) words (is-unit-at us n h l) le) refl
