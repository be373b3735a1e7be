-- A cell that is not among those that a change writes stays as it was.
use Rattle.std.specs.Prelude.{ℕ, zero, suc, ◌+◌, Bool, true, false, not, cond, nat_lt, List, [], ◌∷◌, ◌≡◌, ◌≢◌, ◌<◌, ◌≤◌, length, Result, Ok, Err, refl}
use Rattle.std.proofs.Common.{subst, ◌∙◌, arith}
use Rattle.std.proofs.lemmas.Bool.Decides.{nat_tests}
use Rattle.std.proofs.lemmas.List.{get_or-set_other}
use Rattle.mix_word.specs.declared.register.Reg.{Reg}
use Rattle.mix_word.specs.Word.{WordValue, zero_word}
use Rattle.mix_machine.specs.Prelude.{fits_register, WorldState, cell_of, unit_at, decode_at, arguments_at, effects, applies, order, first_fault, operation_or_nop, does, plan_of, state_after, step_plan, set_value, Write, set, grow, print, written, write_all, copies, each, place_after, from_block, from_cell, input_writes, replace_writes, append_writes, row_writes, control_writes, writes_in, writes_of, block_length, has_place, has_medium, UnitKind, Tape, Disk, CardReader, CardPunch, Printer, Typewriter, PaperTape, Transfer, Writes, Plan, MixFault, IndexOverflow, Change, Old}
use Rattle.mix_machine.specs.Access.{cells_from, has_cell, cells_written, access_of}
use Rattle.mix_machine.proofs.AlteredLemmas.{Every, every-append}
use Rattle.mix_machine.specs.declared.plan.Writes.TheVariants.{Nothing, Register, RegisterAndToggle, Pair, PairAndToggle, Cell as CellOf, Indicator, Copy, Input, Output, Control}
use Rattle.mix_machine.specs.declared.plan.Plan.TheVariants as plan
use Rattle.mix_machine.specs.declared.old.Change.TheVariants.{Step, SetReg, SetCell, SetLoc, SetOver, SetCmp, Break as SetBreak, Clear}
use Rattle.mix_machine.specs.declared.old.Old.TheVariants.{Loc, Clock, Reg as OldRegister, Cell, Over, Cmp as OldCmp, Break, At, Len, Item, Until}

-- a value that is none of a cell
abbrev SparesValue : ℕ → Old → Type 0
SparesValue p (Loc l) = Unit {0}
SparesValue p (Clock t) = Unit {0}
SparesValue p (OldRegister r v) = Unit {0}
SparesValue p (Cell q v) = p ≢ q
SparesValue p (Over b) = Unit {0}
SparesValue p (OldCmp c) = Unit {0}
SparesValue p (Break q b) = Unit {0}
SparesValue p (At m k) = Unit {0}
SparesValue p (Len m k) = Unit {0}
SparesValue p (Item m i j v) = Unit {0}
SparesValue p (Until m t) = Unit {0}

abbrev Spares : ℕ → Write → Type 0
Spares p (set o) = SparesValue p o
Spares p (grow m gap block) = Unit {0}
Spares p (print m row) = Unit {0}

spared-set : (w : WorldState) (o : Old) (p : ℕ) → SparesValue p o → cell_of (set_value w o) p ≡ cell_of w p
spared-set w (Cell q v) p h = get_or-set_other w.cells q p v zero_word h
spared-set w _ p h = refl

spared-written : (w : WorldState) (x : Write) (p : ℕ) → Spares p x → cell_of (written w x) p ≡ cell_of w p
spared-written w (set o) p h = spared-set w o p h
spared-written w (grow m gap block) p h = refl
spared-written w (print m row) p h = refl

spared-write_all : (w : WorldState) (xs : List Write) (p : ℕ) → Every (Spares p) xs → cell_of (write_all w xs) p ≡ cell_of w p
spared-write_all w [] p h = refl
spared-write_all w (x ∷ xs) p h = spared-write_all (written w x) xs p h.1 ∙ spared-written w x p h.0

-- a cell that is none of a span is each of its cells not
outside : (first count p i : ℕ) → has_cell (cells_from first count) p ≡ false → first ≤ i → i < first + count → p ≢ i
outside first count p i h a b = grind (arith, nat_tests)

each-within : (P : Write → Type 0) (n j : ℕ) (f : ℕ → Old) → ((i : ℕ) → j ≤ i → i < j + n → P (set (f i))) → Every P (each n j f)
each-within P zero j f h = tt
each-within P (suc n) j f h = (h j (omega arith) (omega arith), each-within P n (j + 1) f (λ i a b. h i (omega arith) (omega arith)))

spares-copies : (n from to : ℕ) (w : WorldState) (p : ℕ) → ((i : ℕ) → to ≤ i → i < to + n → p ≢ i) → Every (Spares p) (copies n from to w)
spares-copies zero from to w p h = tt
spares-copies (suc n) from to w p h =
    (h to (omega arith) (omega arith), spares-copies n (from + 1) (to + 1) (written w (set (Cell to (cell_of w from)))) p (λ i a b. h i (omega arith) (omega arith)))

spares-place : (b : Bool) (t : Transfer) (p : ℕ) → Every (Spares p) (cond b (set (At t.unit (t.block + 1)) ∷ []) [])
spares-place true t p = (tt, tt)
spares-place false t p = tt

spares-input : (kind : UnitKind) (w : WorldState) (t : Transfer) (p : ℕ) → has_cell (cells_from t.cell (block_length kind)) p ≡ false →
    Every (Spares p) (input_writes kind w t)
spares-input kind w t p h =
    every-append (Spares p) (place_after kind t) _ (spares-place (has_place kind) t p)
    (tt, each-within (Spares p) (block_length kind) 0 (from_block w t) (λ i a b. outside t.cell (block_length kind) p (t.cell + i) h (omega arith) (omega arith)))

spares-either : (kind : UnitKind) (w : WorldState) (t : Transfer) (p : ℕ) (rows there : Bool) →
    Every (Spares p) (cond rows (row_writes kind w t) (cond there (replace_writes kind w t) (append_writes kind w t)))
spares-either kind w t p true there = (tt, (tt, tt))
spares-either kind w t p false true =
    every-append (Spares p) (place_after kind t) _ (spares-place (has_place kind) t p)
    (tt, each-within (Spares p) (block_length kind) 0 (from_cell w t) (λ i a b. tt))
spares-either kind w t p false false =
    (tt, every-append (Spares p) (place_after kind t) _ (spares-place (has_place kind) t p) (tt, tt))

spares-control : (kind : UnitKind) (w : WorldState) (n k p : ℕ) → Every (Spares p) (control_writes kind w n k)
spares-control Tape w n k p = (tt, (tt, tt))
spares-control Disk w n k p = (tt, tt)
spares-control CardReader w n k p = tt
spares-control CardPunch w n k p = tt
spares-control Printer w n k p = (tt, (tt, tt))
spares-control Typewriter w n k p = tt
spares-control PaperTape w n k p = (tt, (tt, tt))

spares-writes_in : (w : WorldState) (x : Writes) (p : ℕ) → has_cell (cells_written w x) p ≡ false → Every (Spares p) (writes_in w x)
spares-writes_in w Nothing p h = tt
spares-writes_in w (Register r v) p h = (tt, tt)
spares-writes_in w (RegisterAndToggle r v b) p h = (tt, (tt, tt))
spares-writes_in w (Pair a x) p h = (tt, (tt, tt))
spares-writes_in w (PairAndToggle a x b) p h = (tt, (tt, (tt, tt)))
spares-writes_in w (CellOf q v) p h = (outside q 1 p q h (omega arith) (omega arith), tt)
spares-writes_in w (Indicator c) p h = (tt, tt)
spares-writes_in w (Copy c) p h =
    every-append (Spares p) (copies c.count c.from c.to w) _
    (spares-copies c.count c.from c.to w p (λ i a b. outside c.to c.count p i h a b)) (tt, tt)
spares-writes_in w (Input t) p h = spares-input (unit_at w t.unit).kind w t p h
spares-writes_in w (Output t) p h =
    spares-either (unit_at w t.unit).kind w t p (not (has_medium (unit_at w t.unit).kind)) (nat_lt t.block (length (unit_at w t.unit).blocks))
spares-writes_in w (Control n k) p h = spares-control (unit_at w n).kind w n k p

-- of each plan that a change may have
abbrev KeepsCell : WorldState → ℕ → Result Plan MixFault → Type 0
KeepsCell w p (Ok q) = cell_of (write_all w (writes_of w q)) p ≡ cell_of w p
KeepsCell w p (Err f) = Unit {0}

keeps-step : (w : WorldState) (x : Writes) (loc clock p : ℕ) → has_cell (cells_written w x) p ≡ false →
    cell_of (write_all w (writes_of w (plan.Step x loc clock))) p ≡ cell_of w p
keeps-step w x loc clock p h =
    spared-write_all w (writes_of w (plan.Step x loc clock)) p
    (every-append (Spares p) (writes_in w x) _ (spares-writes_in w x p h) (tt, (tt, tt)))

keeps-unless : (w : WorldState) (p : ℕ) (b : Bool) (f : MixFault) (r : Result Plan MixFault) → KeepsCell w p r → KeepsCell w p (cond b (Err f) r)
keeps-unless w p true f r h = tt
keeps-unless w p false f r h = h

keeps-first : (w : WorldState) (p : ℕ) (test : MixFault → Bool) (fs : List MixFault) (q : Plan) → cell_of (write_all w (writes_of w q)) p ≡ cell_of w p →
    KeepsCell w p (first_fault test fs q)
keeps-first w p test [] q h = h
keeps-first w p test (f ∷ fs) q h = keeps-unless w p (test f) f (first_fault test fs q) (keeps-first w p test fs q h)

keeps-register : (w : WorldState) (p : ℕ) (b : Bool) (r : Reg) (v : WordValue) → KeepsCell w p (cond b (Ok (plan.Value (OldRegister r v))) (Err IndexOverflow))
keeps-register w p true r v = refl
keeps-register w p false r v = tt

keeps-plan : (w : WorldState) (c : Change) (p : ℕ) → has_cell (access_of w c).written p ≡ false → KeepsCell w p (plan_of w c)
unfolding plan_of access_of
keeps-plan w Step p h =
    let op = operation_or_nop (decode_at w) in
    let a = arguments_at w in
    keeps-first w p (applies (decode_at w) w a) order (step_plan op w a) (keeps-step w (effects op w a).writes _ _ p h)
keeps-plan w (SetReg r v) p h = keeps-register w p (fits_register r v) r v
keeps-plan w (SetCell q v) p h = spared-set w (Cell q v) p (outside q 1 p q h (omega arith) (omega arith))
keeps-plan w (SetLoc q) p h = refl
keeps-plan w (SetOver b) p h = refl
keeps-plan w (SetCmp c) p h = refl
keeps-plan w (SetBreak q) p h = refl
keeps-plan w (Clear q) p h = refl

keeps-state : (v w : WorldState) (p : ℕ) (r : Result Plan MixFault) → KeepsCell v p r → state_after v r ≡ Ok w → cell_of w p ≡ cell_of v p
keeps-state v w p (Ok q) h e =
    let same : write_all v (writes_of v q) ≡ w = cc in subst (λ (s : WorldState). cell_of s p ≡ cell_of v p) same h
keeps-state v w p (Err f) h e = absurd (cc)

pub unwritten : (v w : WorldState) (c : Change) (p : ℕ) → does v c ≡ Ok w → has_cell (access_of v c).written p ≡ false → cell_of w p ≡ cell_of v p
unfolding does
unwritten v w c p e h = keeps-state v w p (plan_of v c) (keeps-plan v c p h) e
