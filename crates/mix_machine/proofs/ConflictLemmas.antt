-- The conflicts with the units from one on.
use Rattle.std.specs.Prelude.{ℕ, zero, suc, false, max, nat_lt, ◌+◌, ◌≡◌, ◌<◌, ◌≤◌, [], ◌∷◌, length, drop, slice_index_or, Option, Some, None, refl}
use Rattle.std.specs.Option.{option_or}
use Rattle.std.proofs.Common.{sym, subst, add-one, arith}
use Rattle.std.proofs.lemmas.Bool.Decides.{nat_tests}
use Rattle.mix_word.specs.declared.uses.UnitUse.{UnitUse}
use Rattle.mix_word.specs.declared.uses.UnitUse.TheVariants.{Looks, Controls, Reads, Writes}
use Rattle.mix_machine.specs.Prelude.{WorldState, arguments_at, use_of, start_of, Change, Step, SetReg, SetCell, SetLoc, SetOver, SetCmp, Break, Clear}
use Rattle.mix_machine.specs.Access.{operation_at, access_of}
use Rattle.mix_machine.specs.Transfers.{TransfersState, end_of, last_end, conflict_with, conflict_from, conflict_of}
use Rattle.mix_machine.specs.declared.access.Access.{Access}

conflict-next : (ts : TransfersState) (m n : ℕ) (a : Access) → n < length ts →
    conflict_from m (drop n ts) a ≡ option_or (conflict_with m (slice_index_or ts n None) a) (conflict_from (m + 1) (drop (suc n) ts) a)
conflict-next [] m n a l = absurd (omega arith)
conflict-next (t ∷ ts) m zero a l = refl
conflict-next (t ∷ ts) m (suc n) a l = conflict-next ts m n a (omega arith)

-- that with the unit of a number, or else with the units after it
pub conflict-step : (ts : TransfersState) (m n : ℕ) (a : Access) → n < length ts →
    conflict_from m (drop n ts) a ≡ option_or (conflict_with m (slice_index_or ts n None) a) (conflict_from (m + 1) (drop (n + 1) ts) a)
conflict-step ts m n a l =
    subst (λ (k : ℕ). conflict_from m (drop n ts) a ≡ option_or (conflict_with m (slice_index_or ts n None) a) (conflict_from (m + 1) (drop k ts) a))
    (sym (add-one n)) (conflict-next ts m n a l)

pub conflict-none : (ts : TransfersState) (m n : ℕ) (a : Access) → length ts ≤ n → conflict_from m (drop n ts) a ≡ None
conflict-none [] m zero a l = refl
conflict-none [] m (suc n) a l = refl
conflict-none (t ∷ ts) m zero a l = absurd (omega arith)
conflict-none (t ∷ ts) m (suc n) a l = conflict-none ts m n a (omega arith)

-- when the last of them ends
last-end-next : (ts : TransfersState) (n : ℕ) → n < length ts → last_end (drop n ts) ≡ max (end_of (slice_index_or ts n None)) (last_end (drop (suc n) ts))
last-end-next [] n l = absurd (omega arith)
last-end-next (t ∷ ts) zero l = refl
last-end-next (t ∷ ts) (suc n) l = last-end-next ts n (omega arith)

pub last-end-step : (ts : TransfersState) (n : ℕ) → n < length ts → last_end (drop n ts) ≡ max (end_of (slice_index_or ts n None)) (last_end (drop (n + 1) ts))
last-end-step ts n l =
    subst (λ (k : ℕ). last_end (drop n ts) ≡ max (end_of (slice_index_or ts n None)) (last_end (drop k ts))) (sym (add-one n)) (last-end-next ts n l)

pub last-end-none : (ts : TransfersState) (n : ℕ) → length ts ≤ n → last_end (drop n ts) ≡ 0
last-end-none [] zero l = refl
last-end-none [] (suc n) l = refl
last-end-none (t ∷ ts) zero l = absurd (omega arith)
last-end-none (t ∷ ts) (suc n) l = last-end-none ts n (omega arith)

pub ruleset last_ends = (last-end-step, last-end-none)

-- Where all transfers are over when a change is asked for, it conflicts with none.
start-later : (u : Option UnitUse) (w : WorldState) (n : ℕ) → w.clock ≤ start_of u w n
start-later None w n = omega arith
start-later (Some Looks) w n = omega arith
start-later (Some Controls) w n = omega arith
start-later (Some Reads) w n = omega arith
start-later (Some Writes) w n = omega arith

access-clock : (w : WorldState) (c : Change) → (access_of w c).clock ≡ w.clock
unfolding access_of
access-clock w Step = refl
access-clock w (SetReg r v) = refl
access-clock w (SetCell p v) = refl
access-clock w (SetLoc p) = refl
access-clock w (SetOver b) = refl
access-clock w (SetCmp c) = refl
access-clock w (Break p) = refl
access-clock w (Clear p) = refl

access-later : (w : WorldState) (c : Change) → w.clock ≤ (access_of w c).start
unfolding access_of
access-later w Step = start-later (use_of (operation_at w)) w (arguments_at w).f
access-later w (SetReg r v) = omega arith
access-later w (SetCell p v) = omega arith
access-later w (SetLoc p) = omega arith
access-later w (SetOver b) = omega arith
access-later w (SetCmp c) = omega arith
access-later w (Break p) = omega arith
access-later w (Clear p) = omega arith

not-below : (m n : ℕ) → n ≤ m → nat_lt m n ≡ false
not-below m n l = grind (arith, nat_tests)

max-left : (m n k : ℕ) → max m n ≤ k → m ≤ k
max-left m n k l = omega (arith, l)

max-right : (m n k : ℕ) → max m n ≤ k → n ≤ k
max-right m n k l = omega (arith, l)

over-none : (ts : TransfersState) (m time : ℕ) (a : Access) → last_end ts ≤ time → time ≤ a.clock → a.clock ≤ a.start → conflict_from m ts a ≡ None
over-none [] m time a h l k = refl
over-none (None ∷ ts) m time a h l k = over-none ts (m + 1) time a (max-right 0 (last_end ts) time h) l k
over-none (Some p ∷ ts) m time a h l k =
    rw (not-below a.clock p.until (omega (arith, max-left p.until (last_end ts) time h, l)))
    (rw (not-below a.start p.until (omega (arith, max-left p.until (last_end ts) time h, l, k))) (over-none ts (m + 1) time a (max-right p.until (last_end ts) time h) l k))

pub all-over : (ts : TransfersState) (w : WorldState) (c : Change) (time : ℕ) → last_end ts ≤ time → time ≤ w.clock → conflict_of ts w c ≡ None
all-over ts w c time h l =
    over-none ts 0 time (access_of w c) h (omega (arith, access-clock w c, l)) (omega (arith, access-clock w c, access-later w c))

pub ruleset conflict_steps = (conflict-step, conflict-none, all-over)

pub ruleset all_over = (all-over)
