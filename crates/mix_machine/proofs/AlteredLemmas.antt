-- A change alters a unit exactly where it makes the time until which the unit is busy another.
use Rattle.std.specs.Prelude.{ℕ, zero, suc, ◌+◌, ◌-◌, max, Bool, true, false, not, cond, ◌==◌, nat_lt, List, [], ◌∷◌, ◌++◌, ◌≡◌, ◌≢◌, ◌<◌, length, Result, Ok, Err, None, IsTrue, refl}
use Rattle.std.proofs.Common.{ap, sym, subst, ◌∙◌, arith}
use Rattle.std.proofs.lemmas.Bool.Decides.{nat_tests}
use Rattle.std.proofs.lemmas.List.{get_or-set_same, get_or-set_other, length-set}
use Rattle.mix_word.specs.declared.register.Reg.{Reg}
use Rattle.mix_word.specs.Word.{WordValue}
use Rattle.mix_machine.specs.Prelude.{fits_register, WorldState, IsWorld, cell_of, unit_at, transfer_end, block_length, has_place, has_medium, row_of, UnitState, empty_unit, with_word, with_blocks, with_row, UnitsState, unit_of, with_unit, cut_to, length-units, set_value, Write, set, grow, print, written, write_all, copies, each, busy, place_after, from_block, from_cell, input_writes, words_out, replace_writes, append_writes, row_writes, output_writes, control_writes, writes_in, writes_of, decode_at, arguments_at, effects, applies, order, first_fault, operation_or_nop, does, plan_of, state_after, step_plan, mark_of, is_same_mark, is_altered, IsPart, UnitKind, Tape, Disk, CardReader, CardPunch, Printer, Typewriter, PaperTape, Transfer, Plan, Writes, MixFault, IndexOverflow, Change, Old, Part}
use Rattle.mix_machine.proofs.WriteLemmas.{write_all-append}
use Rattle.mix_machine.proofs.MarkLemmas.{until-kept, until-cut}
use Rattle.mix_machine.proofs.SameUnit.{Seen, seen-same, seen-later}
use Rattle.mix_machine.specs.declared.plan.Plan.TheVariants as plan
use Rattle.mix_machine.specs.declared.plan.Writes.TheVariants.{Nothing, Register, RegisterAndToggle, Pair, PairAndToggle, Cell as CellOf, Indicator, Copy, Input, Output, Control}
use Rattle.mix_machine.specs.declared.old.Change.TheVariants.{Step, SetReg, SetCell, SetLoc, SetOver, SetCmp, Break as SetBreak, Clear}
use Rattle.mix_machine.specs.declared.old.Old.TheVariants.{Loc, Clock, Reg as OldRegister, Cell, Over, Cmp as OldCmp, Break, At, Len, Item, Until}
use Rattle.mix_machine.specs.declared.part.Part.TheVariants as part

-- a value that is none of a unit
abbrev ApartValue : ℕ → Old → Type 0
ApartValue n (Loc l) = Unit {0}
ApartValue n (Clock t) = Unit {0}
ApartValue n (OldRegister r v) = Unit {0}
ApartValue n (Cell p v) = Unit {0}
ApartValue n (Over b) = Unit {0}
ApartValue n (OldCmp c) = Unit {0}
ApartValue n (Break p b) = Unit {0}
ApartValue n (At m k) = n ≢ m
ApartValue n (Len m k) = n ≢ m
ApartValue n (Item m i j v) = n ≢ m
ApartValue n (Until m t) = n ≢ m

abbrev Apart : ℕ → Write → Type 0
Apart n (set o) = ApartValue n o
Apart n (grow m gap block) = n ≢ m
Apart n (print m row) = n ≢ m

-- a write that sets no time of a unit
abbrev pub TimelessValue : Old → Type 0
TimelessValue (Loc l) = Unit {0}
TimelessValue (Clock t) = Unit {0}
TimelessValue (OldRegister r v) = Unit {0}
TimelessValue (Cell p v) = Unit {0}
TimelessValue (Over b) = Unit {0}
TimelessValue (OldCmp c) = Unit {0}
TimelessValue (Break p b) = Unit {0}
TimelessValue (At m k) = Unit {0}
TimelessValue (Len m k) = Unit {0}
TimelessValue (Item m i j v) = Unit {0}
TimelessValue (Until m t) = IsTrue false

abbrev pub Timeless : Write → Type 0
Timeless (set o) = TimelessValue o
Timeless (grow m gap block) = Unit {0}
Timeless (print m row) = Unit {0}

abbrev pub Every : (Write → Type 0) → List Write → Type 0
Every P [] = Unit {0}
Every P (x ∷ xs) = P x × Every P xs

pub every-append : (P : Write → Type 0) (xs ys : List Write) → Every P xs → Every P ys → Every P (xs ++ ys)
every-append P [] ys h g = g
every-append P (x ∷ xs) ys h g = (h.0, every-append P xs ys h.1 g)

pub every-each : (P : Write → Type 0) (n j : ℕ) (f : ℕ → Old) → ((i : ℕ) → P (set (f i))) → Every P (each n j f)
every-each P zero j f h = tt
every-each P (suc n) j f h = (h j, every-each P n (j + 1) f h)

apart-copies : (m n from to : ℕ) (w : WorldState) → Every (Apart m) (copies n from to w)
apart-copies m zero from to w = tt
apart-copies m (suc n) from to w =
    (tt, apart-copies m n (from + 1) (to + 1) (written w (set (Cell to (cell_of w from)))))

-- a write apart from a unit leaves it
other-unit : (us : UnitsState) (n m : ℕ) (u : UnitState) → n ≢ m → unit_of (with_unit us m u) n ≡ unit_of us n
other-unit us n m u h = get_or-set_other us m n u (empty_unit Tape) h

apart-set : (w : WorldState) (o : Old) (n : ℕ) → ApartValue n o → unit_at (set_value w o) n ≡ unit_at w n
apart-set w (At m k) n h = other-unit w.units n m (record (unit_of w.units m) { place = k }) h
apart-set w (Len m k) n h = other-unit w.units n m (cut_to k (unit_of w.units m)) h
apart-set w (Item m i j v) n h = other-unit w.units n m (with_word (unit_of w.units m) i j v) h
apart-set w (Until m t) n h = other-unit w.units n m (record (unit_of w.units m) { until = t }) h
apart-set w _ n h = refl

apart-written : (w : WorldState) (x : Write) (n : ℕ) → Apart n x → unit_at (written w x) n ≡ unit_at w n
apart-written w (set o) n h = apart-set w o n h
apart-written w (grow m gap block) n h = other-unit w.units n m (with_blocks (unit_of w.units m) gap block) h
apart-written w (print m row) n h = other-unit w.units n m (with_row (unit_of w.units m) row) h

apart-write_all : (w : WorldState) (xs : List Write) (n : ℕ) → Every (Apart n) xs → unit_at (write_all w xs) n ≡ unit_at w n
apart-write_all w [] n h = refl
apart-write_all w (x ∷ xs) n h = apart-write_all (written w x) xs n h.1 ∙ apart-written w x n h.0

-- a write that sets no time keeps them all
timeless-set : (w : WorldState) (o : Old) (n : ℕ) → TimelessValue o → (unit_at w n).until ≡ (unit_at (set_value w o) n).until
timeless-set w (At m k) n h = until-kept w.units m n (record (unit_of w.units m) { place = k }) refl
timeless-set w (Len m k) n h = until-kept w.units m n (cut_to k (unit_of w.units m)) (until-cut (unit_of w.units m) k)
timeless-set w (Item m i j v) n h = until-kept w.units m n (with_word (unit_of w.units m) i j v) refl
timeless-set w (Until m t) n h = absurd (cc)
timeless-set w _ n h = refl

timeless-written : (w : WorldState) (x : Write) (n : ℕ) → Timeless x → (unit_at w n).until ≡ (unit_at (written w x) n).until
timeless-written w (set o) n h = timeless-set w o n h
timeless-written w (grow m gap block) n h = until-kept w.units m n (with_blocks (unit_of w.units m) gap block) refl
timeless-written w (print m row) n h = until-kept w.units m n (with_row (unit_of w.units m) row) refl

timeless-write_all : (w : WorldState) (xs : List Write) (n : ℕ) → Every Timeless xs → (unit_at w n).until ≡ (unit_at (write_all w xs) n).until
timeless-write_all w [] n h = refl
timeless-write_all w (x ∷ xs) n h = timeless-written w x n h.0 ∙ timeless-write_all (written w x) xs n h.1

-- as many units stay
count-with : (us : UnitsState) (m : ℕ) (u : UnitState) → length (with_unit us m u) ≡ length us
count-with us m u = length-set us m u

count-set : (w : WorldState) (o : Old) → length (set_value w o).units ≡ length w.units
count-set w (At m k) = count-with w.units m (record (unit_of w.units m) { place = k })
count-set w (Len m k) = count-with w.units m (cut_to k (unit_of w.units m))
count-set w (Item m i j v) = count-with w.units m (with_word (unit_of w.units m) i j v)
count-set w (Until m t) = count-with w.units m (record (unit_of w.units m) { until = t })
count-set w _ = refl

count-written : (w : WorldState) (x : Write) → length (written w x).units ≡ length w.units
count-written w (set o) = count-set w o
count-written w (grow m gap block) = count-with w.units m (with_blocks (unit_of w.units m) gap block)
count-written w (print m row) = count-with w.units m (with_row (unit_of w.units m) row)

count-write_all : (w : WorldState) (xs : List Write) → length (write_all w xs).units ≡ length w.units
count-write_all w [] = refl
count-write_all w (x ∷ xs) = count-write_all (written w x) xs ∙ count-written w x

-- the time of a unit after writes one of which sets it, and none after that one
pub timed : (w : WorldState) (before after : List Write) (n t : ℕ) → n < length w.units → Every Timeless after →
    (unit_at (write_all w (before ++ set (Until n t) ∷ after)) n).until ≡ t
timed w before after n t l h =
    let s = write_all w before in
    let there : n < length s.units = rw (count-write_all w before) l in
    ap (λ (v : WorldState). (unit_at v n).until) (write_all-append w before (set (Until n t) ∷ after))
    ∙ sym (timeless-write_all (set_value s (Until n t)) after n h)
    ∙ ap (λ (u : UnitState). u.until) (get_or-set_same s.units n (record (unit_of s.units n) { until = t }) (empty_unit Tape) there)

end-later : (clock until delay : ℕ) → until < max clock until + 1 + delay
end-later clock until delay = omega arith

-- What some writes do to a unit and to the others: these stay, and of the unit it is seen.
record Moves (m : ℕ) (w : WorldState) (xs : List Write) : Type 0 where
  apart : (n : ℕ) → n ≢ m → Every (Apart n) xs
  seen : m < length w.units → Seen (unit_at w m) (unit_at (write_all w xs) m)

moves-timed : (w : WorldState) (m : ℕ) (before after : List Write) →
    ((n : ℕ) → n ≢ m → Every (Apart n) before) → ((n : ℕ) → n ≢ m → Every (Apart n) after) → Every Timeless after →
    Moves m w (before ++ busy w m ∷ after)
moves-timed w m before after b a h =
    record {
      apart = λ n d. every-append (Apart n) before (busy w m ∷ after) (b n d) (d, a n d);
      seen = λ l. seen-later (unit_at w m) _ (rw (timed w before after m (transfer_end w m) l h) (end-later w.clock (unit_at w m).until (unit_at w m).delay));
    }

moves-nothing : (w : WorldState) (m : ℕ) → Moves m w []
moves-nothing w m = record { apart = λ n d. tt; seen = λ l. seen-same (unit_at w m) (unit_at w m) refl }

apart-place : (b : Bool) (t : Transfer) (n : ℕ) → n ≢ t.unit → Every (Apart n) (cond b (set (At t.unit (t.block + 1)) ∷ []) [])
apart-place true t n d = (d, tt)
apart-place false t n d = tt

moves-input : (kind : UnitKind) (w : WorldState) (t : Transfer) → Moves t.unit w (input_writes kind w t)
moves-input kind w t =
    moves-timed w t.unit (place_after kind t) (each (block_length kind) 0 (from_block w t))
    (apart-place (has_place kind) t)
    (λ n d. every-each (Apart n) (block_length kind) 0 (from_block w t) (λ i. tt))
    (every-each Timeless (block_length kind) 0 (from_block w t) (λ i. tt))

moves-replace : (kind : UnitKind) (w : WorldState) (t : Transfer) → Moves t.unit w (replace_writes kind w t)
moves-replace kind w t =
    moves-timed w t.unit (place_after kind t) (each (block_length kind) 0 (from_cell w t))
    (apart-place (has_place kind) t)
    (λ n d. every-each (Apart n) (block_length kind) 0 (from_cell w t) (λ i. d))
    (every-each Timeless (block_length kind) 0 (from_cell w t) (λ i. tt))

moves-append : (kind : UnitKind) (w : WorldState) (t : Transfer) → Moves t.unit w (append_writes kind w t)
moves-append kind w t =
    moves-timed w t.unit (grow t.unit (t.block - length (unit_at w t.unit).blocks) (words_out kind w t) ∷ place_after kind t) []
    (λ n d. (d, apart-place (has_place kind) t n d)) (λ n d. tt) tt

moves-row : (kind : UnitKind) (w : WorldState) (t : Transfer) → Moves t.unit w (row_writes kind w t)
moves-row kind w t =
    moves-timed w t.unit (print t.unit (row_of (words_out kind w t)) ∷ []) [] (λ n d. (d, tt)) (λ n d. tt) tt

moves-either : (kind : UnitKind) (w : WorldState) (t : Transfer) (rows there : Bool) →
    Moves t.unit w (cond rows (row_writes kind w t) (cond there (replace_writes kind w t) (append_writes kind w t)))
moves-either kind w t true there = moves-row kind w t
moves-either kind w t false true = moves-replace kind w t
moves-either kind w t false false = moves-append kind w t

moves-output : (kind : UnitKind) (w : WorldState) (t : Transfer) → Moves t.unit w (output_writes kind w t)
moves-output kind w t = moves-either kind w t (not (has_medium kind)) (nat_lt t.block (length (unit_at w t.unit).blocks))

moves-control : (kind : UnitKind) (w : WorldState) (n k : ℕ) → Moves n w (control_writes kind w n k)
moves-control Tape w n k = moves-timed w n (set (At n k) ∷ []) [] (λ m d. (d, tt)) (λ m d. tt) tt
moves-control Disk w n k = moves-timed w n [] [] (λ m d. tt) (λ m d. tt) tt
moves-control CardReader w n k = moves-nothing w n
moves-control CardPunch w n k = moves-nothing w n
moves-control Printer w n k = moves-timed w n (print n None ∷ []) [] (λ m d. (d, tt)) (λ m d. tt) tt
moves-control Typewriter w n k = moves-nothing w n
moves-control PaperTape w n k = moves-timed w n (set (At n k) ∷ []) [] (λ m d. (d, tt)) (λ m d. tt) tt

-- of each unit it is seen whether such writes altered it
abbrev SeenAfter : WorldState → List Write → ℕ → Type 0
SeenAfter w xs n = Seen (unit_at w n) (unit_at (write_all w xs) n)

seen-apart : (w : WorldState) (xs : List Write) (n : ℕ) → Every (Apart n) xs → SeenAfter w xs n
seen-apart w xs n h = seen-same (unit_at w n) _ (sym (apart-write_all w xs n h))

seen-moved : (w : WorldState) (xs : List Write) (n m : ℕ) (b : Bool) → (n == m) ≡ b → n < length w.units → Moves m w xs → SeenAfter w xs n
seen-moved w xs n m true e l h =
    let same : m ≡ n = grind (arith, nat_tests) in
    subst (SeenAfter w xs) same (h.seen (rw same l))
seen-moved w xs n m false e l h = seen-apart w xs n (h.apart n (grind (arith, nat_tests)))

seen-value : (w : WorldState) (o : Old) (n : ℕ) → ApartValue n o → SeenAfter w (set o ∷ []) n
seen-value w o n h = seen-apart w (set o ∷ []) n (h, tt)

seen-writes_in : (w : WorldState) (x : Writes) (n : ℕ) → n < length w.units → SeenAfter w (writes_in w x) n
seen-writes_in w Nothing n l = seen-apart w (writes_in w Nothing) n tt
seen-writes_in w (Register r v) n l = seen-value w (OldRegister r v) n tt
seen-writes_in w (RegisterAndToggle r v b) n l = seen-apart w (writes_in w (RegisterAndToggle r v b)) n (tt, (tt, tt))
seen-writes_in w (Pair a x) n l = seen-apart w (writes_in w (Pair a x)) n (tt, (tt, tt))
seen-writes_in w (PairAndToggle a x b) n l = seen-apart w (writes_in w (PairAndToggle a x b)) n (tt, (tt, (tt, tt)))
seen-writes_in w (CellOf p v) n l = seen-value w (Cell p v) n tt
seen-writes_in w (Indicator c) n l = seen-value w (OldCmp c) n tt
seen-writes_in w (Copy c) n l =
    seen-apart w (writes_in w (Copy c)) n (every-append (Apart n) (copies c.count c.from c.to w) _ (apart-copies n c.count c.from c.to w) (tt, tt))
seen-writes_in w (Input t) n l =
    seen-moved w _ n t.unit (n == t.unit) refl l (moves-input (unit_at w t.unit).kind w t)
seen-writes_in w (Output t) n l =
    seen-moved w _ n t.unit (n == t.unit) refl l (moves-output (unit_at w t.unit).kind w t)
seen-writes_in w (Control m k) n l =
    seen-moved w _ n m (n == m) refl l (moves-control (unit_at w m).kind w m k)

-- and so it is of the writes of a step, which end with the location and the clock
seen-step : (w : WorldState) (x : Writes) (loc clock n : ℕ) → n < length w.units → SeenAfter w (writes_of w (plan.Step x loc clock)) n
seen-step w x loc clock n l =
    subst (λ (s : WorldState). Seen (unit_at w n) (unit_at s n)) (sym (write_all-append w (writes_in w x) (set (Loc loc) ∷ set (Clock clock) ∷ [])))
    (seen-writes_in w x n l)

-- of each plan that a change may have
abbrev SeenPlan : WorldState → ℕ → Result Plan MixFault → Type 0
SeenPlan w n (Ok p) = SeenAfter w (writes_of w p) n
SeenPlan w n (Err f) = Unit {0}

seen-unless : (w : WorldState) (n : ℕ) (b : Bool) (f : MixFault) (r : Result Plan MixFault) → SeenPlan w n r → SeenPlan w n (cond b (Err f) r)
seen-unless w n true f r h = tt
seen-unless w n false f r h = h

seen-first : (w : WorldState) (n : ℕ) (test : MixFault → Bool) (fs : List MixFault) (p : Plan) → SeenAfter w (writes_of w p) n →
    SeenPlan w n (first_fault test fs p)
seen-first w n test [] p h = h
seen-first w n test (f ∷ fs) p h = seen-unless w n (test f) f (first_fault test fs p) (seen-first w n test fs p h)

seen-register : (w : WorldState) (n : ℕ) (b : Bool) (r : Reg) (v : WordValue) → SeenPlan w n (cond b (Ok (plan.Value (OldRegister r v))) (Err IndexOverflow))
seen-register w n true r v = seen-value w (OldRegister r v) n tt
seen-register w n false r v = tt

seen-plan : (w : WorldState) (c : Change) (n : ℕ) → n < length w.units → SeenPlan w n (plan_of w c)
unfolding plan_of
seen-plan w Step n l =
    let op = operation_or_nop (decode_at w) in
    let a = arguments_at w in
    seen-first w n (applies (decode_at w) w a) order (step_plan op w a) (seen-step w (effects op w a).writes _ _ n l)
seen-plan w (SetReg r v) n l = seen-register w n (fits_register r v) r v
seen-plan w (SetCell p v) n l = seen-value w (Cell p v) n tt
seen-plan w (SetLoc p) n l = seen-value w (Loc p) n tt
seen-plan w (SetOver b) n l = seen-value w (Over b) n tt
seen-plan w (SetCmp c) n l = seen-value w (OldCmp c) n tt
seen-plan w (SetBreak p) n l = seen-value w (Break p true) n tt
seen-plan w (Clear p) n l = seen-value w (Break p false) n tt

seen-state : (v w : WorldState) (n : ℕ) (r : Result Plan MixFault) → SeenPlan v n r → state_after v r ≡ Ok w → Seen (unit_at v n) (unit_at w n)
seen-state v w n (Ok p) h e =
    let same : write_all v (writes_of v p) ≡ w = cc in subst (λ (s : WorldState). Seen (unit_at v n) (unit_at s n)) same h
seen-state v w n (Err f) h e = absurd (cc)

seen-does : (v w : WorldState) (c : Change) (n : ℕ) → n < length v.units → does v c ≡ Ok w → Seen (unit_at v n) (unit_at w n)
unfolding does
seen-does v w c n l e = seen-state v w n (plan_of v c) (seen-plan v c n l) e

-- of each part it is seen by its mark whether a change altered it
pub altered : (v w : WorldState) (c : Change) (p : Part) → IsWorld v → IsPart p → does v c ≡ Ok w →
    is_altered p v w ≡ not (is_same_mark (mark_of v p) (mark_of w p))
altered v w c (part.Unit n) h p e = ap not (seen-does v w c n (rw (length-units v.units h.units) p) e)
altered v w c _ h p e = refl
