-- What stood at a place of a unit fits that place after it was written, and putting it back undoes the write.
use Rattle.std.specs.Prelude.{◌≡◌, ◌<◌, ◌≤◌, ℕ, zero, suc, Bool, true, false, ◌&&◌, cond, nat_le, nat_lt, List, [], ◌∷◌, ◌++◌, length, take, slice_index_or, slice_set, IsTrue, refl}
use Rattle.std.proofs.Common.{ap, ◌∙◌, arith, length-append}
use Rattle.std.proofs.lemmas.Bool.Decides.{nat_tests}
use Rattle.std.proofs.lemmas.List.{length-set, set-set, set-get_or, get_or-set_same, take_at, append_assoc}
use Rattle.mix_word.specs.Prelude.{WordValue, zero_word, unit_count}
use Rattle.mix_machine.specs.units.UnitKind.{has_medium, has_output}
use Rattle.mix_machine.specs.units.Row.{RowState}
use Rattle.mix_machine.specs.units.Unit.{UnitState, empty_unit, block_of, with_word, zero_blocks, with_blocks, with_row}
use Rattle.mix_machine.specs.units.Units.{UnitsState, AreUnits, unit_of, with_unit, set_place, place_at, fits_place, cut_to, length_of, set_length, length_at, fits_length, set_item, item_at, fits_item, set_until, until_at, fits_until, add_blocks, add_row}
use Rattle.mix_machine.specs.units.Keep.{length-units, is-unit-at, length-with_blocks}
use Rattle.mix_machine.specs.declared.units.kind.UnitKind.TheVariants.{Tape}

same-unit : (us : UnitsState) (n : ℕ) (u : UnitState) → AreUnits us → n < unit_count → unit_of (with_unit us n u) n ≡ u
same-unit us n u h l = get_or-set_same us n u (empty_unit Tape) (rw (length-units us h) l)

-- a unit altered, and then altered back
back-with : (us : UnitsState) (n : ℕ) (u : UnitState) (f : UnitState → UnitState) → AreUnits us → n < unit_count → f u ≡ unit_of us n →
    with_unit (with_unit us n u) n (f (unit_of (with_unit us n u) n)) ≡ us
back-with us n u f h l e =
    ap (λ v. with_unit (with_unit us n u) n (f v)) (same-unit us n u h l)
    ∙ ap (with_unit (with_unit us n u) n) e
    ∙ set-set us n u (unit_of us n) ∙ set-get_or us n (empty_unit Tape)

pub back-set_place : (us : UnitsState) (n k : ℕ) → AreUnits us → n < unit_count → set_place (set_place us n k) n (place_at us n) ≡ us
back-set_place us n k h l =
    back-with us n (record (unit_of us n) { place = k }) (λ (v : UnitState). record v { place = place_at us n }) h l refl

pub back-set_until : (us : UnitsState) (n t : ℕ) → AreUnits us → n < unit_count → set_until (set_until us n t) n (until_at us n) ≡ us
back-set_until us n t h l =
    back-with us n (record (unit_of us n) { until = t }) (λ (v : UnitState). record v { until = until_at us n }) h l refl

back-word : (bs : List (List WordValue)) (i j : ℕ) (v : WordValue) →
    slice_set (slice_set bs i (slice_set (slice_index_or bs i []) j v)) i
    (slice_set (slice_index_or (slice_set bs i (slice_set (slice_index_or bs i []) j v)) i []) j
    (slice_index_or (slice_index_or bs i []) j zero_word))
    ≡ bs
back-word [] i j v = refl
back-word (b ∷ bs) zero j v =
    ap (λ c. c ∷ bs) (set-set b j v (slice_index_or b j zero_word) ∙ set-get_or b j zero_word)
back-word (b ∷ bs) (suc i) j v = ap (λ cs. b ∷ cs) (back-word bs i j v)

pub back-set_item : (us : UnitsState) (n i j : ℕ) (v : WordValue) → AreUnits us → n < unit_count →
    set_item (set_item us n i j v) n i j (item_at us n i j) ≡ us
back-set_item us n i j v h l =
    back-with us n (with_word (unit_of us n) i j v) (λ (u : UnitState). with_word u i j (item_at us n i j)) h l
    (ap (λ bs. record (unit_of us n) { blocks = bs }) (back-word (unit_of us n).blocks i j v))

cut-blocks : (u : UnitState) (bs : List (List WordValue)) (m o : Bool) → m ≡ true →
    cond m (record u { blocks = take (cond m (length u.blocks) (length u.rows)) (u.blocks ++ bs) })
    (cond o (record u { blocks = u.blocks ++ bs; rows = take (cond m (length u.blocks) (length u.rows)) u.rows })
    (record u { blocks = u.blocks ++ bs }))
    ≡ u
cut-blocks u bs true o e = ap (λ cs. record u { blocks = cs }) (take_at u.blocks bs (length u.blocks) refl)
cut-blocks u bs false o e = absurd (cc)

pub back-add_blocks : (us : UnitsState) (n gap : ℕ) (block : List WordValue) → AreUnits us → n < unit_count → has_medium (unit_of us n).kind ≡ true →
    set_length (add_blocks us n gap block) n (length_at us n) ≡ us
back-add_blocks us n gap block h l m =
    let u = unit_of us n in
    let all : with_blocks u gap block ≡ record u { blocks = u.blocks ++ (zero_blocks u.kind gap ++ block ∷ []) } =
    ap (λ bs. record u { blocks = bs }) (append_assoc u.blocks (zero_blocks u.kind gap) (block ∷ [])) in
    back-with us n (with_blocks u gap block) (cut_to (length_at us n)) h l
    (ap (cut_to (length_at us n)) all ∙ cut-blocks u (zero_blocks u.kind gap ++ block ∷ []) (has_medium u.kind) (has_output u.kind) m)

cut-rows : (u : UnitState) (rows : List RowState) (m o : Bool) → m ≡ false → o ≡ true →
    cond m (record u { rows = u.rows ++ rows; blocks = take (cond m (length u.blocks) (length u.rows)) u.blocks })
    (cond o (record u { rows = take (cond m (length u.blocks) (length u.rows)) (u.rows ++ rows) }) (record u { rows = u.rows ++ rows }))
    ≡ u
cut-rows u rows true o e f = absurd (cc)
cut-rows u rows false true e f = ap (λ rs. record u { rows = rs }) (take_at u.rows rows (length u.rows) refl)
cut-rows u rows false false e f = absurd (cc)

pub back-add_row : (us : UnitsState) (n : ℕ) (row : RowState) → AreUnits us → n < unit_count → has_medium (unit_of us n).kind ≡ false →
    has_output (unit_of us n).kind ≡ true → set_length (add_row us n row) n (length_at us n) ≡ us
back-add_row us n row h l m o =
    let u = unit_of us n in
    back-with us n (with_row u row) (cut_to (length_at us n)) h l (cut-rows u (row ∷ []) (has_medium u.kind) (has_output u.kind) m o)

-- what stood there is in the range of its place
pub fits-place_at : (us : UnitsState) (n k : ℕ) → AreUnits us → IsTrue (fits_place us n k) → IsTrue (fits_place (set_place us n k) n (place_at us n))
fits-place_at us n k h f =
    let l : n < unit_count = grind (arith, nat_tests) in
    let within = (is-unit-at us n h l).place in
    rw (same-unit us n (record (unit_of us n) { place = k }) h l) (grind (arith, nat_tests))

pub fits-until_at : (us : UnitsState) (n : ℕ) → AreUnits us → n < unit_count → IsTrue (fits_until n (until_at us n))
fits-until_at us n h l = let most = (is-unit-at us n h l).until in grind (arith, nat_tests)

pub fits-item_at : (us : UnitsState) (n i j : ℕ) (v : WordValue) → AreUnits us → IsTrue (fits_item us n i j) →
    IsTrue (fits_item (set_item us n i j v) n i j)
fits-item_at us n i j v h f =
    let l : n < unit_count = grind (arith, nat_tests) in
    let u = unit_of us n in
    rw (same-unit us n (with_word u i j v) h l, length-set u.blocks i (slice_set (block_of u i) j v)) f

can-cut-blocks : (m o : Bool) (k place blocks rows : ℕ) → m ≡ true → k ≤ blocks → place ≤ k →
    IsTrue (cond m (nat_le k blocks && nat_le place k) (o && nat_le k rows))
can-cut-blocks true o k place blocks rows e a b = grind (arith, nat_tests)
can-cut-blocks false o k place blocks rows e a b = absurd (cc)

can-cut-rows : (m o : Bool) (k place blocks rows : ℕ) → m ≡ false → o ≡ true → k ≤ rows →
    IsTrue (cond m (nat_le k blocks && nat_le place k) (o && nat_le k rows))
can-cut-rows true o k place blocks rows e f a = absurd (cc)
can-cut-rows false true k place blocks rows e f a = grind (arith, nat_tests)
can-cut-rows false false k place blocks rows e f a = absurd (cc)

cond-true : (b : Bool) (x y : ℕ) → b ≡ true → cond b x y ≡ x
cond-true true x y e = refl
cond-true false x y e = absurd (cc)

cond-false : (b : Bool) (x y : ℕ) → b ≡ false → cond b x y ≡ y
cond-false true x y e = absurd (cc)
cond-false false x y e = refl

both-true : (a b : Bool) → IsTrue a → IsTrue b → IsTrue (a && b)
both-true true true e f = refl
both-true true false e f = f
both-true false b e f = e

pub fits-length_of_blocks : (us : UnitsState) (n gap : ℕ) (block : List WordValue) → AreUnits us → n < unit_count → has_medium (unit_of us n).kind ≡ true →
    IsTrue (fits_length (add_blocks us n gap block) n (length_at us n))
fits-length_of_blocks us n gap block h l m =
    let u = unit_of us n in
    let len : length_of u ≡ length u.blocks = cond-true (has_medium u.kind) (length u.blocks) (length u.rows) m in
    let more = length-with_blocks u gap block in
    let place = (is-unit-at us n h l).place in
    both-true (nat_lt n unit_count) _ (grind (arith, nat_tests))
    (rw (same-unit us n (with_blocks u gap block) h l, len)
    (can-cut-blocks (has_medium u.kind) (has_output u.kind) (length u.blocks) u.place (length (with_blocks u gap block).blocks) (length u.rows) m (omega arith) place))

pub fits-length_of_rows : (us : UnitsState) (n : ℕ) (row : RowState) → AreUnits us → n < unit_count → has_medium (unit_of us n).kind ≡ false →
    has_output (unit_of us n).kind ≡ true → IsTrue (fits_length (add_row us n row) n (length_at us n))
fits-length_of_rows us n row h l m o =
    let u = unit_of us n in
    let len : length_of u ≡ length u.rows = cond-false (has_medium u.kind) (length u.blocks) (length u.rows) m in
    let more = length-append u.rows (row ∷ []) in
    both-true (nat_lt n unit_count) _ (grind (arith, nat_tests))
    (rw (same-unit us n (with_row u row) h l, len)
    (can-cut-rows (has_medium u.kind) (has_output u.kind) (length u.rows) u.place (length u.blocks) (length (with_row u row).rows) m o (omega arith)))
