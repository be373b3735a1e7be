-- A block moved between a unit and the cells: the place and the time of the unit, and then the words.
use Rattle.std.proofs.Common.{ℕ, ◌+◌, ◌-◌, ◌≡◌, ◌<◌, ◌≤◌, ◌++◌, ◌∙◌, Bool, true, false, cond, IsTrue, List, [], ◌∷◌, length, nat_lt, take, drop, sym, ap, subst, arith, refl}
use Rattle.std.specs.Prelude.{slice_index_or}
use Rattle.std.proofs.lemmas.Bool.Decides.{nat_tests}
use Rattle.undo_core.specs.Pack.{KeptList}
use Rattle.mix_word.specs.Prelude.{WordValue, zero_word, unit_count}
use Rattle.mix_machine.specs.Prelude.{WorldState, IsWorld, unit_at, block_length, has_place, has_medium, UnitKind, transfer_end, RowState, row_of, UnitState, most_entries, Write, set, busy, write_all, set_value, each, from_block, from_cell, fits, place_after, words_out, row_writes, replace_writes, append_writes, output_writes, Transfer, Old, At, Cell, Item, Until, Wrote}
use Rattle.mix_machine.specs.units.Units.{UnitsState, add_blocks, add_row, length_of, length_at}
use Rattle.mix_machine.specs.units.Keep.{keep-add_blocks, keep-add_row}
use Rattle.mix_machine.specs.law.Fits.{with-units}
use Rattle.mix_machine.specs.law.Plans.{InputFits, OutputFits, ready, world-place, fits-place-in}
use Rattle.mix_machine.specs.law.Units.{unit-with}
use Rattle.mix_machine.proofs.WriteLemmas.{joined}

-- the place, the time and the words
pub transferred : (v w w1 w2 w3 : WorldState) (n end : ℕ) (ps xs ys : List Write) (ks k1 k2 k3 : KeptList Old) → Wrote ps w w1 ks k1 →
    Wrote (set (Until n end) ∷ []) w1 w2 k1 k2 → Wrote ys w2 w3 k2 k3 → end ≡ transfer_end v n → ys ≡ xs → Wrote (ps ++ busy v n ∷ xs) w w3 ks k3
transferred v w w1 w2 w3 n end ps xs ys ks k1 k2 k3 a b c e g =
    let time = subst (λ k. Wrote (set (Until n k) ∷ []) w1 w2 k1 k2) e b in
    let words = subst (λ zs. Wrote zs w2 w3 k2 k3) g c in
    joined ps (busy v n ∷ xs) w w1 w3 ks k1 k3 a (joined (busy v n ∷ []) xs w1 w2 w3 k1 k2 k3 time words)

-- the place and the time of the unit set
pub to-ready : (w w1 w2 : WorldState) (t : Transfer) (k : UnitKind) (end : ℕ) → k ≡ (unit_at w t.unit).kind → w1 ≡ write_all w (place_after k t) →
    end ≡ transfer_end w t.unit → w2 ≡ set_value w1 (Until t.unit end) → w2 ≡ ready w t
to-ready w w1 w2 t k end ek e1 ee e2 = rw (e2, ee, e1, ek) refl

pub fits-place-after : (w : WorldState) (t : Transfer) (k : UnitKind) → t.unit < unit_count → t.block < length (unit_at w t.unit).blocks →
    k ≡ (unit_at w t.unit).kind → has_place k ≡ true → IsTrue (fits w (At t.unit (t.block + 1)))
fits-place-after w t k l h e p = fits-place-in w t.unit (t.block + 1) l (ap has_place (sym e) ∙ p) (omega arith)

-- the blocks of the unit are those before
unit-placed : (b : Bool) (w : WorldState) (t : Transfer) → IsWorld w → t.unit < unit_count →
    ((unit_at (write_all w (cond b (set (At t.unit (t.block + 1)) ∷ []) [])) t.unit).blocks ≡ (unit_at w t.unit).blocks)
    × ((unit_at (write_all w (cond b (set (At t.unit (t.block + 1)) ∷ []) [])) t.unit).kind ≡ (unit_at w t.unit).kind)
unit-placed true w t h l =
    let same = unit-with w.units t.unit (record (unit_at w t.unit) { place = t.block + 1 }) h.units l in
    (ap (λ (u : UnitState). u.blocks) same, ap (λ (u : UnitState). u.kind) same)
unit-placed false w t h l = (refl, refl)

pub unit-ready : (w : WorldState) (t : Transfer) → IsWorld w → InputFits w t →
    ((unit_at (ready w t) t.unit).blocks ≡ (unit_at w t.unit).blocks) × ((unit_at (ready w t) t.unit).kind ≡ (unit_at w t.unit).kind)
unit-ready w t h f =
    let kind = (unit_at w t.unit).kind in
    let block = f.block in
    let world = world-place (has_place kind) w t h (λ p. fits-place-in w t.unit (t.block + 1) f.unit p (omega arith)) in
    let placed = write_all w (place_after kind t) in
    let same = unit-with placed.units t.unit (record (unit_at placed t.unit) { until = transfer_end w t.unit }) world.units f.unit in
    let before = unit-placed (has_place kind) w t h f.unit in
    (ap (λ (u : UnitState). u.blocks) same ∙ before.0, ap (λ (u : UnitState). u.kind) same ∙ before.1)

pub same-words : (size : ℕ) (w v : WorldState) (t : Transfer) → (unit_at v t.unit).blocks ≡ (unit_at w t.unit).blocks →
    each size 0 (from_block v t) ≡ each size 0 (from_block w t)
same-words size w v t e =
    ap (λ (bs : List (List WordValue)). each size 0 (λ j. Cell (t.cell + j) (slice_index_or (slice_index_or bs t.block []) j zero_word))) e

-- what is read of a unit
pub kind-of : (w : WorldState) (n : ℕ) (u : UnitState) (k : UnitKind) → k ≡ u.kind → u ≡ unit_at w n → k ≡ (unit_at w n).kind
kind-of w n u k ek eu = rw (ek, eu) refl

pub blocks-of : (w : WorldState) (n : ℕ) (u : UnitState) (k : ℕ) → k ≡ length u.blocks → u ≡ unit_at w n → k ≡ length (unit_at w n).blocks
blocks-of w n u k ek eu = rw (ek, eu) refl

pub length-of : (w : WorldState) (n : ℕ) (u : UnitState) (k : ℕ) → k ≡ length_of u → u ≡ unit_at w n → k ≡ length_at w.units n
length-of w n u k ek eu = rw (ek, eu) refl

pub room-grown : (v w : WorldState) (t : Transfer) (blocks : ℕ) → v ≡ w → OutputFits w t → has_medium (unit_at w t.unit).kind ≡ true →
    length (unit_at w t.unit).blocks ≤ t.block → blocks ≡ length (unit_at w t.unit).blocks →
    length (unit_at v t.unit).blocks + (t.block - blocks) < most_entries
room-grown v w t blocks e f m b eb = let few = f.block m in rw (e, eb) (omega arith)

-- the words of cells as a new block
pub to-grown : (v w : WorldState) (us : UnitsState) (t : Transfer) (kind : UnitKind) (blocks from size : ℕ) (cells : List WordValue) →
    us ≡ add_blocks v.units t.unit (t.block - blocks) (take (from + size - from) (drop from cells)) → v ≡ w →
    blocks ≡ length (unit_at w t.unit).blocks → from ≡ t.cell → size ≡ block_length kind → cells ≡ v.cells →
    us ≡ add_blocks w.units t.unit (t.block - length (unit_at w t.unit).blocks) (words_out kind w t)
to-grown v w us t kind blocks from size cells eu ev eb ef es ec =
    let n : t.cell + block_length kind - t.cell ≡ block_length kind = omega arith in
    rw (eu, ec, ev, eb, ef, es, n) refl

-- and as a new row
pub to-printed : (v w : WorldState) (us : UnitsState) (t : Transfer) (kind : UnitKind) (from size : ℕ) (cells : List WordValue) →
    us ≡ add_row v.units t.unit (row_of (take (from + size - from) (drop from cells))) → v ≡ w → from ≡ t.cell → size ≡ block_length kind →
    cells ≡ v.cells → us ≡ add_row w.units t.unit (row_of (words_out kind w t))
to-printed v w us t kind from size cells eu ev ef es ec =
    let n : t.cell + block_length kind - t.cell ≡ block_length kind = omega arith in
    rw (eu, ec, ev, ef, es, n) refl

pub rows-room : (v w : WorldState) (n : ℕ) → v ≡ w → length (unit_at w n).rows < most_entries → length (unit_at v n).rows < most_entries
rows-room v w n e h = rw e h

pub world-grown : (v w : WorldState) (us : UnitsState) (t : Transfer) (gap : ℕ) (block : List WordValue) → v ≡ w → IsWorld v → OutputFits w t →
    has_medium (unit_at w t.unit).kind ≡ true → length (unit_at w t.unit).blocks ≤ t.block → gap ≡ t.block - length (unit_at w t.unit).blocks →
    us ≡ add_blocks v.units t.unit gap block → IsWorld (record v { units = us })
world-grown v w us t gap block e h f m b g u =
    let few = f.block m in
    let room : length (unit_at w t.unit).blocks + gap < most_entries = omega arith in
    rw u (with-units v _ h (keep-add_blocks v.units t.unit gap block h.units f.unit (rw e room)))

pub world-printed : (v w : WorldState) (us : UnitsState) (n : ℕ) (row : RowState) → v ≡ w → IsWorld v → n < unit_count →
    length (unit_at w n).rows < most_entries → us ≡ add_row v.units n row → IsWorld (record v { units = us })
world-printed v w us n row e h l room u = rw u (with-units v _ h (keep-add_row v.units n row h.units l (rw e room)))

cells-placed : (b : Bool) (w : WorldState) (t : Transfer) → (write_all w (cond b (set (At t.unit (t.block + 1)) ∷ []) [])).cells ≡ w.cells
cells-placed true w t = refl
cells-placed false w t = refl

-- the cells are those before the place and the time were set
pub cells-same : (size n : ℕ) (w w1 w2 : WorldState) (kind : UnitKind) (t : Transfer) → w1 ≡ write_all w (place_after kind t) →
    w2 ≡ set_value w1 (Until t.unit (transfer_end w t.unit)) → size ≡ n → each size 0 (from_cell w2 t) ≡ each n 0 (from_cell w t)
cells-same size n w w1 w2 kind t e1 e2 s =
    rw (s, e2, e1) (
    ap (λ (cells : List WordValue). each n 0 (λ j. Item t.unit t.block j (slice_index_or cells (t.cell + j) zero_word))) (cells-placed (has_place kind) w t)
    )

pub with-grown : (v w : WorldState) (us vs : UnitsState) → v ≡ w → us ≡ vs → record v { units = us } ≡ record w { units = vs }
with-grown v w us vs e g = rw (e, g) refl

-- what OUT writes to each kind of unit
pub out-row : (w : WorldState) (t : Transfer) (k : UnitKind) → k ≡ (unit_at w t.unit).kind → has_medium k ≡ false →
    output_writes (unit_at w t.unit).kind w t ≡ row_writes k w t
out-row w t k e m = rw (← e, m) refl

pub out-replace : (w : WorldState) (t : Transfer) (k : UnitKind) → k ≡ (unit_at w t.unit).kind → has_medium k ≡ true →
    t.block < length (unit_at w t.unit).blocks → output_writes (unit_at w t.unit).kind w t ≡ replace_writes k w t
out-replace w t k e m h =
    let there : nat_lt t.block (length (unit_at w t.unit).blocks) ≡ true = grind (arith, nat_tests) in
    rw (there, ← e, m) refl

pub out-append : (w : WorldState) (t : Transfer) (k : UnitKind) → k ≡ (unit_at w t.unit).kind → has_medium k ≡ true →
    length (unit_at w t.unit).blocks ≤ t.block → output_writes (unit_at w t.unit).kind w t ≡ append_writes k w t
out-append w t k e m h =
    let past : nat_lt t.block (length (unit_at w t.unit).blocks) ≡ false = grind (arith, nat_tests) in
    rw (past, ← e, m) refl
