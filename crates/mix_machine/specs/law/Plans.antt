-- The plan of an accepted change: its writes fit.
use Rattle.std.specs.Prelude.{ℕ, zero, suc, ◌+◌, ◌-◌, true, false, Bool, not, ◌&&◌, cond, nat_le, nat_lt, List, [], ◌∷◌, ◌++◌, length, None, ◌≡◌, ◌<◌, ◌≤◌, IsTrue, refl}
use Rattle.std.proofs.Common.{ap, arith}
use Rattle.std.proofs.lemmas.Bool.Decides.{nat_tests}
use Rattle.mix_word.specs.Prelude.{WordValue, unit_count}
use Rattle.mix_machine.specs.World.{WorldState, IsWorld, cell_of, unit_at, last_clock}
use Rattle.mix_machine.specs.UnitAction.{transfer_end, marks_page}
use Rattle.mix_machine.specs.units.UnitKind.{block_length, has_place, has_medium, has_output}
use Rattle.mix_machine.specs.units.Unit.{word_of, most_entries, last_until}
use Rattle.mix_machine.specs.units.Row.{RowState, row_of}
use Rattle.mix_machine.specs.units.Units.{UnitsState, AreUnits, unit_of, fits_place, fits_item, fits_until, set_until}
use Rattle.mix_machine.specs.declared.units.kind.UnitKind.{UnitKind}
use Rattle.mix_machine.specs.declared.units.kind.UnitKind.TheVariants.{Tape, Disk, CardReader, CardPunch, Printer, Typewriter, PaperTape}
use Rattle.mix_machine.specs.Write.{set_value, fits, Write, set, grow, print, written, write_all, each, place_after, copies, input_writes, words_out, replace_writes, append_writes, row_writes, output_writes, control_writes, writes_in, writes_of}
use Rattle.mix_machine.specs.Order.{all_fit}
use Rattle.mix_machine.specs.law.Fits.{is_length, write_fits, AllFit, world-set_value}
use Rattle.mix_machine.specs.law.Units.{unit-with, fits-item-after, fits-item-moved, fits-place-grown}
use Rattle.mix_machine.specs.declared.plan.Transfer.{Transfer}
use Rattle.mix_machine.specs.declared.plan.Plan.{Plan}
use Rattle.mix_machine.specs.declared.plan.Plan.TheVariants.{Value, Step}
use Rattle.mix_machine.specs.declared.plan.Writes.{Writes}
use Rattle.mix_machine.specs.declared.plan.Writes.TheVariants.{Nothing, Register, RegisterAndToggle, Pair, PairAndToggle, Cell as CellOf, Indicator, Copy, Input, Output, Control}
use Rattle.mix_machine.specs.declared.old.Old.TheVariants.{Cell, At, Item, Until}

-- what IN needs of its unit and its cells
pub record InputFits (w : WorldState) (t : Transfer) : Type 0 where
  pub unit : t.unit < unit_count
  pub block : t.block < length (unit_at w t.unit).blocks
  pub few : t.block < most_entries
  pub cells : t.cell + block_length (unit_at w t.unit).kind ≤ 4000
  pub until : transfer_end w t.unit ≤ last_until

-- what OUT needs
pub record OutputFits (w : WorldState) (t : Transfer) : Type 0 where
  pub unit : t.unit < unit_count
  pub cells : t.cell + block_length (unit_at w t.unit).kind ≤ 4000
  pub until : transfer_end w t.unit ≤ last_until
  pub block : has_medium (unit_at w t.unit).kind ≡ true → t.block < most_entries
  pub output : has_medium (unit_at w t.unit).kind ≡ false → has_output (unit_at w t.unit).kind ≡ true
  pub row : has_medium (unit_at w t.unit).kind ≡ false → length (unit_at w t.unit).rows < most_entries

-- and what IOC needs
pub record ControlFits (w : WorldState) (n k : ℕ) : Type 0 where
  pub unit : n < unit_count
  pub until : transfer_end w n ≤ last_until
  pub place : k ≤ length (unit_at w n).blocks
  pub page : marks_page (unit_at w n).kind ≡ true → length (unit_at w n).rows < most_entries

abbrev pub UnitFits : WorldState → Writes → Type 0
UnitFits w Nothing = Unit {0}
UnitFits w (Register r v) = Unit {0}
UnitFits w (RegisterAndToggle r v b) = Unit {0}
UnitFits w (Pair a x) = Unit {0}
UnitFits w (PairAndToggle a x b) = Unit {0}
UnitFits w (CellOf p v) = Unit {0}
UnitFits w (Indicator c) = Unit {0}
UnitFits w (Copy c) = Unit {0}
UnitFits w (Input t) = InputFits w t
UnitFits w (Output t) = OutputFits w t
UnitFits w (Control n k) = ControlFits w n k

-- whether a plan's values are in the ranges of their places
abbrev pub plan_fits : WorldState → Plan → Bool
plan_fits w (Value o) = not (is_length o) && fits w o
plan_fits w (Step x loc clock) = all_fit x && nat_le loc 4000 && nat_le clock last_clock

-- and what it moves to or from a unit has room
abbrev pub PlanFits : WorldState → Plan → Type 0
PlanFits w (Value o) = Unit {0}
PlanFits w (Step x loc clock) = UnitFits w x

fit-append : (w : WorldState) (xs ys : List Write) → AllFit w xs → AllFit (write_all w xs) ys → AllFit w (xs ++ ys)
fit-append w [] ys h g = g
fit-append w (x ∷ xs) ys h g = (h.0, fit-append (written w x) xs ys h.1 g)

fit-copies : (n from to : ℕ) (w : WorldState) → to + n ≤ 4000 → AllFit w (copies n from to w)
fit-copies zero from to w h = tt
fit-copies (suc n) from to w h =
    (grind (arith, nat_tests), fit-copies n (from + 1) (to + 1) (written w (set (Cell to (cell_of w from)))) (omega arith))

-- cells, whatever else the state is
pub fit-cells : (n j to : ℕ) (w : WorldState) (v : ℕ → WordValue) → to + j + n ≤ 4000 → AllFit w (each n j (λ i. Cell (to + i) (v i)))
fit-cells zero j to w v h = tt
fit-cells (suc n) j to w v h =
    (grind (arith, nat_tests), fit-cells n (j + 1) to (set_value w (Cell (to + j) (v j))) v (omega arith))

-- the words of a block that is there
pub fit-items : (n j m i size : ℕ) (w : WorldState) (v : ℕ → WordValue) → IsWorld w → ((k : ℕ) → k < size → IsTrue (fits_item w.units m i k)) →
    j + n ≤ size → AllFit w (each n j (λ k. Item m i k (v k)))
fit-items zero j m i size w v h f le = tt
fit-items (suc n) j m i size w v h f le =
    let here : IsTrue (fits_item w.units m i j) = f j (omega arith) in (
      here,
      fit-items n (j + 1) m i size (set_value w (Item m i j (v j))) v (world-set_value w (Item m i j (v j)) h here)
          (λ k l. fits-item-after w.units m i j k (v j) h.units here (f k l)) (omega arith),
    )

pub fits-until-in : (n t : ℕ) → n < unit_count → t ≤ last_until → IsTrue (fits_until n t)
fits-until-in n t l h = grind (arith, nat_tests)

pub fits-place-in : (w : WorldState) (n k : ℕ) → n < unit_count → has_place (unit_at w n).kind ≡ true → k ≤ length (unit_at w n).blocks →
    IsTrue (fits_place w.units n k)
fits-place-in w n k l p h = grind (arith, nat_tests)

fits-item-in : (w : WorldState) (n i j : ℕ) → n < unit_count → has_medium (unit_at w n).kind ≡ true → i < length (unit_at w n).blocks →
    j < block_length (unit_at w n).kind → IsTrue (fits_item w.units n i j)
fits-item-in w n i j l m h g = grind (arith, nat_tests)

-- the place after the block
fit-place : (b : Bool) (w : WorldState) (t : Transfer) → (b ≡ true → IsTrue (fits w (At t.unit (t.block + 1)))) →
    AllFit w (cond b (set (At t.unit (t.block + 1)) ∷ []) [])
fit-place true w t f = (f refl, tt)
fit-place false w t f = tt

-- which leaves the blocks alone
items-placed : (b : Bool) (w : WorldState) (t : Transfer) (j : ℕ) → IsWorld w → t.unit < unit_count → IsTrue (fits_item w.units t.unit t.block j) →
    IsTrue (fits_item (write_all w (cond b (set (At t.unit (t.block + 1)) ∷ []) [])).units t.unit t.block j)
items-placed true w t j h l f = fits-item-moved w.units t.unit (t.block + 1) t.block j h.units l f
items-placed false w t j h l f = f

pub world-place : (b : Bool) (w : WorldState) (t : Transfer) → IsWorld w → (b ≡ true → IsTrue (fits w (At t.unit (t.block + 1)))) →
    IsWorld (write_all w (cond b (set (At t.unit (t.block + 1)) ∷ []) []))
world-place true w t h f = world-set_value w (At t.unit (t.block + 1)) h (f refl)
world-place false w t h f = h

fits-item-timed : (us : UnitsState) (n t i j : ℕ) → AreUnits us → n < unit_count → IsTrue (fits_item us n i j) →
    IsTrue (fits_item (set_until us n t) n i j)
fits-item-timed us n t i j h l f = rw (unit-with us n (record (unit_of us n) { until = t }) h l) f

can-grow : (w : WorldState) (n gap : ℕ) (block : List WordValue) → n < unit_count → has_medium (unit_at w n).kind ≡ true →
    length (unit_at w n).blocks + gap < most_entries → IsTrue (write_fits w (grow n gap block))
can-grow w n gap block l m r = grind (arith, nat_tests)

can-print : (w : WorldState) (n : ℕ) (row : RowState) → n < unit_count → has_medium (unit_at w n).kind ≡ false → has_output (unit_at w n).kind ≡ true →
    length (unit_at w n).rows < most_entries → IsTrue (write_fits w (print n row))
can-print w n row l m o r = grind (arith, nat_tests)

-- IN
pub fit-input : (w : WorldState) (t : Transfer) → InputFits w t → AllFit w (input_writes (unit_at w t.unit).kind w t)
fit-input w t f =
    let kind = (unit_at w t.unit).kind in
    let block = f.block in
    let cells = f.cells in
    fit-append w (place_after kind t) _
    (fit-place (has_place kind) w t (λ p. fits-place-in w t.unit (t.block + 1) f.unit p (omega arith)))
    (fits-until-in t.unit (transfer_end w t.unit) f.unit f.until, fit-cells (block_length kind) 0 t.cell _ (λ j. word_of (unit_at w t.unit) t.block j) (omega arith))

-- the state in which the words of a block are moved: the place and the time of the unit are those after
abbrev pub ready : WorldState → Transfer → WorldState
ready w t = set_value (write_all w (place_after (unit_at w t.unit).kind t)) (Until t.unit (transfer_end w t.unit))

pub items-ready : (w : WorldState) (t : Transfer) → IsWorld w → OutputFits w t → has_medium (unit_at w t.unit).kind ≡ true →
    t.block < length (unit_at w t.unit).blocks → (j : ℕ) → j < block_length (unit_at w t.unit).kind →
    IsTrue (fits_item (ready w t).units t.unit t.block j)
items-ready w t h f m block j l =
    let kind = (unit_at w t.unit).kind in
    let world = world-place (has_place kind) w t h (λ p. fits-place-in w t.unit (t.block + 1) f.unit p (omega arith)) in
    fits-item-timed (write_all w (place_after kind t)).units t.unit (transfer_end w t.unit) t.block j world.units f.unit
    (items-placed (has_place kind) w t j h f.unit (fits-item-in w t.unit t.block j f.unit m block l))

-- OUT
fit-replace : (w : WorldState) (t : Transfer) → IsWorld w → OutputFits w t → has_medium (unit_at w t.unit).kind ≡ true →
    t.block < length (unit_at w t.unit).blocks → AllFit w (replace_writes (unit_at w t.unit).kind w t)
fit-replace w t h f m block =
    let kind = (unit_at w t.unit).kind in
    let size = block_length kind in
    let end = transfer_end w t.unit in
    let until = fits-until-in t.unit end f.unit f.until in
    let placed = write_all w (place_after kind t) in
    let place = fit-place (has_place kind) w t (λ p. fits-place-in w t.unit (t.block + 1) f.unit p (omega arith)) in
    let world = world-place (has_place kind) w t h (λ p. fits-place-in w t.unit (t.block + 1) f.unit p (omega arith)) in
    fit-append w (place_after kind t) _ place (
      until,
      fit-items size 0 t.unit t.block size _ (λ j. cell_of w (t.cell + j)) (world-set_value placed (Until t.unit end) world until)
          (items-ready w t h f m block) (omega arith),
    )

fit-row : (w : WorldState) (t : Transfer) → OutputFits w t → has_medium (unit_at w t.unit).kind ≡ false →
    AllFit w (row_writes (unit_at w t.unit).kind w t)
fit-row w t f m =
    (can-print w t.unit (row_of (words_out (unit_at w t.unit).kind w t)) f.unit m (f.output m) (f.row m), (fits-until-in t.unit (transfer_end w t.unit) f.unit f.until, tt))

fit-append_block : (w : WorldState) (t : Transfer) → IsWorld w → OutputFits w t → has_medium (unit_at w t.unit).kind ≡ true →
    length (unit_at w t.unit).blocks ≤ t.block → AllFit w (append_writes (unit_at w t.unit).kind w t)
fit-append_block w t h f m block =
    let u = unit_at w t.unit in
    let gap = t.block - length u.blocks in
    let few = f.block m in
    let grown = written w (grow t.unit gap (words_out u.kind w t)) in (
      can-grow w t.unit gap (words_out u.kind w t) f.unit m (omega arith),
      fit-append grown (place_after u.kind t) _
          (fit-place (has_place u.kind) grown t (λ p. fits-place-grown w.units t.unit t.block (words_out u.kind w t) h.units f.unit p block))
          (fits-until-in t.unit (transfer_end w t.unit) f.unit f.until, tt),
    )

fit-output-as : (w : WorldState) (t : Transfer) (m there : Bool) → IsWorld w → OutputFits w t → has_medium (unit_at w t.unit).kind ≡ m →
    nat_lt t.block (length (unit_at w t.unit).blocks) ≡ there →
    AllFit w (cond (not m) (row_writes (unit_at w t.unit).kind w t)
    (cond there (replace_writes (unit_at w t.unit).kind w t) (append_writes (unit_at w t.unit).kind w t)))
fit-output-as w t false there h f m e = fit-row w t f m
fit-output-as w t true true h f m e = fit-replace w t h f m (grind (arith, nat_tests))
fit-output-as w t true false h f m e = fit-append_block w t h f m (grind (arith, nat_tests))

pub fit-output : (w : WorldState) (t : Transfer) → IsWorld w → OutputFits w t → AllFit w (output_writes (unit_at w t.unit).kind w t)
fit-output w t h f = fit-output-as w t _ _ h f refl refl

-- IOC
fit-control-as : (w : WorldState) (n k : ℕ) (kind : UnitKind) → ControlFits w n k → (unit_at w n).kind ≡ kind → AllFit w (control_writes kind w n k)
fit-control-as w n k Tape f e =
    (fits-place-in w n k f.unit (ap has_place e) f.place, (fits-until-in n (transfer_end w n) f.unit f.until, tt))
fit-control-as w n k Disk f e = (fits-until-in n (transfer_end w n) f.unit f.until, tt)
fit-control-as w n k CardReader f e = tt
fit-control-as w n k CardPunch f e = tt
fit-control-as w n k Printer f e =
    (can-print w n None f.unit (ap has_medium e) (ap has_output e) (f.page (ap marks_page e)), (fits-until-in n (transfer_end w n) f.unit f.until, tt))
fit-control-as w n k Typewriter f e = tt
fit-control-as w n k PaperTape f e =
    (fits-place-in w n k f.unit (ap has_place e) f.place, (fits-until-in n (transfer_end w n) f.unit f.until, tt))

pub fit-control : (w : WorldState) (n k : ℕ) → ControlFits w n k → AllFit w (control_writes (unit_at w n).kind w n k)
fit-control w n k f = fit-control-as w n k (unit_at w n).kind f refl

fit-writes_in : (w : WorldState) (x : Writes) → IsWorld w → IsTrue (all_fit x) → UnitFits w x → AllFit w (writes_in w x)
fit-writes_in w Nothing h f u = tt
fit-writes_in w (Register r v) h f u = (f, tt)
fit-writes_in w (RegisterAndToggle r v b) h f u = (f, (refl, tt))
fit-writes_in w (Pair a x) h f u = (refl, (refl, tt))
fit-writes_in w (PairAndToggle a x b) h f u = (refl, (refl, (refl, tt)))
fit-writes_in w (CellOf p v) h f u = (f, tt)
fit-writes_in w (Indicator c) h f u = (refl, tt)
fit-writes_in w (Copy c) h f u =
    fit-append w (copies c.count c.from c.to w) _ (fit-copies c.count c.from c.to w (grind (arith, nat_tests)))
    (grind (arith, nat_tests), tt)
fit-writes_in w (Input t) h f u = fit-input w t u
fit-writes_in w (Output t) h f u = fit-output w t h u
fit-writes_in w (Control n k) h f u = fit-control w n k u

-- the writes of a plan that fits fit
pub fit-writes_of : (w : WorldState) (p : Plan) → IsWorld w → IsTrue (plan_fits w p) → PlanFits w p → AllFit w (writes_of w p)
fit-writes_of w (Value o) h f u = (f, tt)
fit-writes_of w (Step x loc clock) h f u =
    let fit : IsTrue (all_fit x) = grind (arith, nat_tests) in
    fit-append w (writes_in w x) _ (fit-writes_in w x h fit u) (grind (arith, nat_tests), (grind (arith, nat_tests), tt))
