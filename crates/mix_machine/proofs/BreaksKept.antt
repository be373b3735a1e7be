-- A step keeps the breakpoints.
use Rattle.std.specs.Prelude.{ℕ, zero, suc, ◌+◌, Bool, true, false, not, cond, nat_lt, List, [], ◌∷◌, ◌++◌, ◌≡◌, length, Result, Ok, Err, IsTrue, refl}
use Rattle.std.proofs.Common.{subst, ◌∙◌}
use Rattle.mix_machine.specs.Prelude.{WorldState, cell_of, unit_at, block_length, has_place, has_medium, set_value, Write, set, grow, print, written, write_all, copies, each, busy, place_after, from_block, from_cell, replace_writes, append_writes, row_writes, control_writes, writes_in, writes_of, decode_at, arguments_at, effects, applies, order, first_fault, operation_or_nop, does, plan_of, state_after, step_plan, UnitKind, Tape, Disk, CardReader, CardPunch, Printer, Typewriter, PaperTape, Transfer, Plan, Writes, MixFault, Step, Old}
use Rattle.mix_machine.proofs.AlteredLemmas.{Every, every-append, every-each}
use Rattle.mix_machine.specs.declared.plan.Plan.TheVariants as plan
use Rattle.mix_machine.specs.declared.plan.Writes.TheVariants.{Nothing, Register, RegisterAndToggle, Pair, PairAndToggle, Cell as CellOf, Indicator, Copy, Input, Output, Control}
use Rattle.mix_machine.specs.declared.old.Old.TheVariants.{Loc, Clock, Cell, Break, At}

-- a write of something else than a breakpoint
abbrev Breakless : Write → Type 0
Breakless (set (Break p b)) = IsTrue false
Breakless _ = Unit {0}

set-kept : (w : WorldState) (o : Old) → Breakless (set o) → (set_value w o).breaks ≡ w.breaks
set-kept w (Break p b) h = absurd (cc)
set-kept w _ h = refl

written-kept : (w : WorldState) (x : Write) → Breakless x → (written w x).breaks ≡ w.breaks
written-kept w (set o) h = set-kept w o h
written-kept w (grow n gap block) h = refl
written-kept w (print n row) h = refl

all-kept : (w : WorldState) (xs : List Write) → Every Breakless xs → (write_all w xs).breaks ≡ w.breaks
all-kept w [] h = refl
all-kept w (x ∷ xs) h = all-kept (written w x) xs h.1 ∙ written-kept w x h.0

in-copies : (n from to : ℕ) (w : WorldState) → Every Breakless (copies n from to w)
in-copies zero from to w = tt
in-copies (suc n) from to w = (tt, in-copies n (from + 1) (to + 1) (written w (set (Cell to (cell_of w from)))))

in-place : (b : Bool) (t : Transfer) → Every Breakless (cond b (set (At t.unit (t.block + 1)) ∷ []) [])
in-place true t = (tt, tt)
in-place false t = tt

in-output : (kind : UnitKind) (w : WorldState) (t : Transfer) (rows there : Bool) →
    Every Breakless (cond rows (row_writes kind w t) (cond there (replace_writes kind w t) (append_writes kind w t)))
in-output kind w t true there = (tt, (tt, tt))
in-output kind w t false true =
    every-append Breakless (place_after kind t) (busy w t.unit ∷ each (block_length kind) 0 (from_cell w t))
    (in-place (has_place kind) t)
    (tt, every-each Breakless (block_length kind) 0 (from_cell w t) (λ i. tt))
in-output kind w t false false =
    (tt, every-append Breakless (place_after kind t) (busy w t.unit ∷ []) (in-place (has_place kind) t) (tt, tt))

in-control : (kind : UnitKind) (w : WorldState) (n k : ℕ) → Every Breakless (control_writes kind w n k)
in-control Tape w n k = (tt, (tt, tt))
in-control Disk w n k = (tt, tt)
in-control CardReader w n k = tt
in-control CardPunch w n k = tt
in-control Printer w n k = (tt, (tt, tt))
in-control Typewriter w n k = tt
in-control PaperTape w n k = (tt, (tt, tt))

in-writes : (w : WorldState) (x : Writes) → Every Breakless (writes_in w x)
in-writes w Nothing = tt
in-writes w (Register r v) = (tt, tt)
in-writes w (RegisterAndToggle r v b) = (tt, (tt, tt))
in-writes w (Pair a x) = (tt, (tt, tt))
in-writes w (PairAndToggle a x b) = (tt, (tt, (tt, tt)))
in-writes w (CellOf p v) = (tt, tt)
in-writes w (Indicator c) = (tt, tt)
in-writes w (Copy c) = every-append Breakless (copies c.count c.from c.to w) _ (in-copies c.count c.from c.to w) (tt, tt)
in-writes w (Input t) =
    let kind = (unit_at w t.unit).kind in
    every-append Breakless (place_after kind t) (busy w t.unit ∷ each (block_length kind) 0 (from_block w t))
    (in-place (has_place kind) t)
    (tt, every-each Breakless (block_length kind) 0 (from_block w t) (λ i. tt))
in-writes w (Output t) =
    let u = unit_at w t.unit in in-output u.kind w t (not (has_medium u.kind)) (nat_lt t.block (length u.blocks))
in-writes w (Control n k) = in-control (unit_at w n).kind w n k

-- of a step that is refused nothing is said
abbrev KeptBy : WorldState → Result Plan MixFault → Type 0
KeptBy w (Ok p) = (write_all w (writes_of w p)).breaks ≡ w.breaks
KeptBy w (Err f) = Unit {0}

kept-unless : (w : WorldState) (b : Bool) (f : MixFault) (r : Result Plan MixFault) → KeptBy w r → KeptBy w (cond b (Err f) r)
kept-unless w true f r h = tt
kept-unless w false f r h = h

kept-first : (w : WorldState) (test : MixFault → Bool) (fs : List MixFault) (p : Plan) → (write_all w (writes_of w p)).breaks ≡ w.breaks →
    KeptBy w (first_fault test fs p)
kept-first w test [] p h = h
kept-first w test (f ∷ fs) p h = kept-unless w (test f) f (first_fault test fs p) (kept-first w test fs p h)

kept-step : (w : WorldState) (x : Writes) (loc clock : ℕ) → (write_all w (writes_of w (plan.Step x loc clock))).breaks ≡ w.breaks
kept-step w x loc clock =
    all-kept w (writes_in w x ++ set (Loc loc) ∷ set (Clock clock) ∷ [])
    (every-append Breakless (writes_in w x) (set (Loc loc) ∷ set (Clock clock) ∷ []) (in-writes w x) (tt, (tt, tt)))

kept-plan : (w : WorldState) → KeptBy w (plan_of w Step)
unfolding plan_of
kept-plan w =
    let op = operation_or_nop (decode_at w) in
    let a = arguments_at w in
    kept-first w (applies (decode_at w) w a) order (step_plan op w a) (kept-step w (effects op w a).writes _ _)

kept-state : (v w : WorldState) (r : Result Plan MixFault) → KeptBy v r → state_after v r ≡ Ok w → w.breaks ≡ v.breaks
kept-state v w (Ok p) h e =
    let same : write_all v (writes_of v p) ≡ w = cc (e) in
    subst (λ (s : WorldState). s.breaks ≡ v.breaks) same h
kept-state v w (Err f) h e = absurd (cc (e))

pub breaks-kept : (v w : WorldState) → does v Step ≡ Ok w → w.breaks ≡ v.breaks
unfolding does
breaks-kept v w e = kept-state v w (plan_of v Step) (kept-plan v) e
