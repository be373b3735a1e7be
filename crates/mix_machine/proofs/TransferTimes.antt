-- A transfer ends when the step that began it says that its unit is free again; one of a unit without a delay is over after that step.
use Rattle.std.specs.Prelude.{ℕ, ◌-◌, Bool, true, false, not, cond, nat_lt, List, [], ◌∷◌, ◌≡◌, ◌<◌, length, Option, Some, None, Result, Ok, Err, refl}
use Rattle.std.proofs.Common.{sym, subst, arith}
use Rattle.std.proofs.lemmas.Bool.Decides.{nat_tests}
use Rattle.mix_word.specs.Uses.{unit_count}
use Rattle.mix_machine.specs.Prelude.{WorldState, IsWorld, unit_at, decode_at, arguments_at, effects, applies, order, first_fault, operation_or_nop, does, plan_of, state_after, step_plan, transfer_end, set, grow, print, write_all, each, from_block, from_cell, words_out, place_after, input_writes, replace_writes, append_writes, row_writes, writes_in, writes_of, made_by, transfer_by, block_length, has_medium, row_of, length-units, UnitKind, Transfer, Writes, Plan, Pending, MixFault, Change, Step, SetReg, SetCell, SetLoc, SetOver, SetCmp, Break, Clear}
use Rattle.mix_machine.proofs.AlteredLemmas.{Timeless, every-each, timed}
use Rattle.mix_machine.proofs.WriteLemmas.{write_all-append}
use Rattle.mix_machine.specs.declared.plan.Writes.TheVariants.{Nothing, Register, RegisterAndToggle, Pair, PairAndToggle, Cell as CellOf, Indicator, Copy, Input, Output, Control}
use Rattle.mix_machine.specs.declared.plan.Plan.TheVariants as plan
use Rattle.mix_machine.specs.declared.old.Old.TheVariants.{Loc, Clock}

-- after writes the unit of a transfer is free when it ends
abbrev FreeAt : WorldState → Option (ℕ × Option Pending) → Type 0
FreeAt v None = Unit {0}
FreeAt v (Some (n, None)) = Unit {0}
FreeAt v (Some (n, Some p)) = (unit_at v n).until ≡ p.until

until-input : (kind : UnitKind) (w : WorldState) (t : Transfer) → t.unit < length w.units →
    (unit_at (write_all w (input_writes kind w t)) t.unit).until ≡ transfer_end w t.unit
until-input kind w t l =
    timed w (place_after kind t) (each (block_length kind) 0 (from_block w t)) t.unit (transfer_end w t.unit) l
    (every-each Timeless (block_length kind) 0 (from_block w t) (λ i. tt))

until-either : (kind : UnitKind) (w : WorldState) (t : Transfer) (rows there : Bool) → t.unit < length w.units →
    (unit_at (write_all w (cond rows (row_writes kind w t) (cond there (replace_writes kind w t) (append_writes kind w t)))) t.unit).until ≡ transfer_end w t.unit
until-either kind w t true there l =
    timed w (print t.unit (row_of (words_out kind w t)) ∷ []) [] t.unit (transfer_end w t.unit) l tt
until-either kind w t false true l =
    timed w (place_after kind t) (each (block_length kind) 0 (from_cell w t)) t.unit (transfer_end w t.unit) l
    (every-each Timeless (block_length kind) 0 (from_cell w t) (λ i. tt))
until-either kind w t false false l =
    timed w (grow t.unit (t.block - length (unit_at w t.unit).blocks) (words_out kind w t) ∷ place_after kind t) [] t.unit (transfer_end w t.unit) l tt

free-begun : (v : WorldState) (n : ℕ) (p : Pending) (b : Bool) → nat_lt n unit_count ≡ b → (n < unit_count → (unit_at v n).until ≡ p.until) →
    FreeAt v (cond b (Some (n, Some p)) None)
free-begun v n p true e h = h (grind (arith, nat_tests))
free-begun v n p false e h = tt

free-ended : (v : WorldState) (n : ℕ) (b : Bool) → FreeAt v (cond b (Some (n, None)) None)
free-ended v n true = tt
free-ended v n false = tt

free-writes_in : (w : WorldState) (x : Writes) → IsWorld w → FreeAt (write_all w (writes_in w x)) (made_by w x)
free-writes_in w Nothing h = tt
free-writes_in w (Register r v) h = tt
free-writes_in w (RegisterAndToggle r v b) h = tt
free-writes_in w (Pair a x) h = tt
free-writes_in w (PairAndToggle a x b) h = tt
free-writes_in w (CellOf p v) h = tt
free-writes_in w (Indicator c) h = tt
free-writes_in w (Copy c) h = tt
free-writes_in w (Input t) h =
    free-begun (write_all w (writes_in w (Input t))) t.unit _ _ refl
    (λ l. until-input (unit_at w t.unit).kind w t (rw (length-units w.units h.units) l))
free-writes_in w (Output t) h =
    free-begun (write_all w (writes_in w (Output t))) t.unit _ _ refl
    (λ l. until-either (unit_at w t.unit).kind w t (not (has_medium (unit_at w t.unit).kind)) (nat_lt t.block (length (unit_at w t.unit).blocks)) (rw (length-units w.units h.units) l))
free-writes_in w (Control n k) h = free-ended (write_all w (writes_in w (Control n k))) n (nat_lt n unit_count)

-- the location and the clock, which end the writes of a step, are no part of a unit
same-units : (v : WorldState) (loc clock : ℕ) (m : Option (ℕ × Option Pending)) → FreeAt v m → FreeAt (write_all v (set (Loc loc) ∷ set (Clock clock) ∷ [])) m
same-units v loc clock None h = tt
same-units v loc clock (Some (n, None)) h = tt
same-units v loc clock (Some (n, Some p)) h = h

free-step : (w : WorldState) (x : Writes) (loc clock : ℕ) → IsWorld w → FreeAt (write_all w (writes_of w (plan.Step x loc clock))) (made_by w x)
free-step w x loc clock h =
    subst (λ (s : WorldState). FreeAt s (made_by w x)) (sym (write_all-append w (writes_in w x) (set (Loc loc) ∷ set (Clock clock) ∷ [])))
    (same-units (write_all w (writes_in w x)) loc clock (made_by w x) (free-writes_in w x h))

-- of each plan that a step may have
abbrev FreePlan : WorldState → Option (ℕ × Option Pending) → Result Plan MixFault → Type 0
FreePlan w m (Ok p) = FreeAt (write_all w (writes_of w p)) m
FreePlan w m (Err f) = Unit {0}

free-unless : (w : WorldState) (m : Option (ℕ × Option Pending)) (b : Bool) (f : MixFault) (r : Result Plan MixFault) → FreePlan w m r →
    FreePlan w m (cond b (Err f) r)
free-unless w m true f r h = tt
free-unless w m false f r h = h

free-first : (w : WorldState) (m : Option (ℕ × Option Pending)) (test : MixFault → Bool) (fs : List MixFault) (p : Plan) →
    FreeAt (write_all w (writes_of w p)) m → FreePlan w m (first_fault test fs p)
free-first w m test [] p h = h
free-first w m test (f ∷ fs) p h = free-unless w m (test f) f (first_fault test fs p) (free-first w m test fs p h)

free-plan : (w : WorldState) → IsWorld w → FreePlan w (transfer_by w Step) (plan_of w Step)
unfolding plan_of transfer_by
free-plan w h =
    let op = operation_or_nop (decode_at w) in
    let a = arguments_at w in
    free-first w _ (applies (decode_at w) w a) order (step_plan op w a) (free-step w (effects op w a).writes _ _ h)

free-state : (v w : WorldState) (m : Option (ℕ × Option Pending)) (r : Result Plan MixFault) → FreePlan v m r → state_after v r ≡ Ok w → FreeAt w m
free-state v w m (Ok p) h e =
    let same : write_all v (writes_of v p) ≡ w = cc in subst (λ (s : WorldState). FreeAt s m) same h
free-state v w m (Err f) h e = absurd (cc)

free-does : (v w : WorldState) (c : Change) → IsWorld v → does v c ≡ Ok w → FreeAt w (transfer_by v c)
unfolding does transfer_by
free-does v w Step h e = free-state v w _ (plan_of v Step) (free-plan v h) e
free-does v w (SetReg r x) h e = tt
free-does v w (SetCell p x) h e = tt
free-does v w (SetLoc p) h e = tt
free-does v w (SetOver b) h e = tt
free-does v w (SetCmp c) h e = tt
free-does v w (Break p) h e = tt
free-does v w (Clear p) h e = tt

-- a transfer ends when its unit is free again
pub ends : (v w : WorldState) (c : Change) (n : ℕ) (p : Pending) → IsWorld v → does v c ≡ Ok w → transfer_by v c ≡ Some (n, Some p) →
    (unit_at w n).until ≡ p.until
ends v w c n p h e m = subst (FreeAt w) m (free-does v w c h e)
