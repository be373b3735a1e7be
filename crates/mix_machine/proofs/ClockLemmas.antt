-- The clock goes no way but forward, none but a step moves it, a step is done at a cell, and the state after a change is one of the machine.
use Rattle.std.proofs.Common.{ℕ, ◌≡◌, ◌≢◌, ◌≤◌, ◌<◌, Bool, true, false, cond, List, [], ◌∷◌, Option, Some, None, Result, Ok, Err, refl, ap, sym, subst, arith}
use Rattle.mix_word.specs.declared.operation.Operation.{Operation}
use Rattle.mix_word.specs.declared.register.Reg.{Reg}
use Rattle.mix_word.specs.declared.uses.UnitUse.{UnitUse}
use Rattle.mix_word.specs.declared.uses.UnitUse.TheVariants.{Looks, Controls, Reads, Writes}
use Rattle.mix_word.specs.Word.{WordValue}
use Rattle.mix_machine.specs.Prelude.{fits_register, WorldState, IsWorld, use_of, start_of, decode_at, arguments_at, effects, set, Write, written, write_all, writes_in, writes_of, Arguments, Plan, MixFault, IndexOverflow, Change, Step, SetReg, SetCell, SetLoc, SetOver, SetCmp, Break, Clear}
use Rattle.mix_machine.specs.Order.{applies, order, first_fault, operation_or_nop, clock_after}
use Rattle.mix_machine.specs.Do.{does, plan_of, state_after, next_location, step_plan, IsReal}
use Rattle.mix_machine.specs.law.Fits.{AllFit, world-written}
use Rattle.mix_machine.specs.law.Plans.{fit-writes_of}
use Rattle.mix_machine.specs.law.Undone.{plan-fits}
use Rattle.mix_machine.proofs.Halting.{planned, at-cell}
use Rattle.mix_machine.proofs.WriteLemmas.{write_all-append}
use Rattle.mix_machine.specs.declared.plan.Plan.TheVariants as plan
use Rattle.mix_machine.specs.declared.plan.Writes.{Writes as PlanWrites}
use Rattle.mix_machine.specs.declared.old.Old.TheVariants as old

start-forward : (u : Option UnitUse) (w : WorldState) (n : ℕ) → w.clock ≤ start_of u w n
start-forward None w n = omega arith
start-forward (Some Looks) w n = omega arith
start-forward (Some Controls) w n = omega arith
start-forward (Some Reads) w n = omega arith
start-forward (Some Writes) w n = omega arith

clock_after-forward : (op : Operation) (w : WorldState) (a : Arguments) → w.clock ≤ clock_after op w a
clock_after-forward op w a = omega (arith, start-forward (use_of op) w a.f)

-- the clock after the writes of a step is the one of its plan
step-clock : (w : WorldState) (x : PlanWrites) (loc clock : ℕ) → clock ≡ (write_all w (writes_of w (plan.Step x loc clock))).clock
step-clock w x loc clock =
    ap (λ (s : WorldState). s.clock) (sym (write_all-append w (writes_in w x) (set (old.Loc loc) ∷ set (old.Clock clock) ∷ [])))

-- what a plan does to the clock
abbrev Forward : WorldState → Result Plan MixFault → Type 0
Forward w (Ok p) = w.clock ≤ (write_all w (writes_of w p)).clock
Forward w (Err f) = Unit {0}

abbrev Kept : WorldState → Result Plan MixFault → Type 0
Kept w (Ok p) = w.clock ≡ (write_all w (writes_of w p)).clock
Kept w (Err f) = Unit {0}

forward-unless : (w : WorldState) (b : Bool) (f : MixFault) (r : Result Plan MixFault) → Forward w r → Forward w (cond b (Err f) r)
forward-unless w true f r h = tt
forward-unless w false f r h = h

forward-first : (w : WorldState) (test : MixFault → Bool) (fs : List MixFault) (p : Plan) → w.clock ≤ (write_all w (writes_of w p)).clock →
    Forward w (first_fault test fs p)
forward-first w test [] p h = h
forward-first w test (f ∷ fs) p h = forward-unless w (test f) f (first_fault test fs p) (forward-first w test fs p h)

kept-register : (w : WorldState) (b : Bool) (r : Reg) (v : WordValue) → Kept w (cond b (Ok (plan.Value (old.Reg r v))) (Err IndexOverflow))
kept-register w true r v = refl
kept-register w false r v = tt

kept-plan : (w : WorldState) (c : Change) → c ≢ Step → Kept w (plan_of w c)
unfolding plan_of
kept-plan w Step h = absurd (h refl)
kept-plan w (SetReg r v) h = kept-register w (fits_register r v) r v
kept-plan w (SetCell p v) h = refl
kept-plan w (SetLoc p) h = refl
kept-plan w (SetOver b) h = refl
kept-plan w (SetCmp c) h = refl
kept-plan w (Break p) h = refl
kept-plan w (Clear p) h = refl

forward-kept : (w : WorldState) (r : Result Plan MixFault) → Kept w r → Forward w r
forward-kept w (Ok p) h = omega (arith, h)
forward-kept w (Err f) h = tt

forward-step : (w : WorldState) → Forward w (plan_of w Step)
unfolding plan_of
forward-step w =
    let op = operation_or_nop (decode_at w) in
    let a = arguments_at w in
    let e = effects op w a in
    forward-first w (applies (decode_at w) w a) order (step_plan op w a)
    (subst (λ (n : ℕ). w.clock ≤ n) (step-clock w e.writes (next_location e.jumps w a) (clock_after op w a)) (clock_after-forward op w a))

forward-plan : (w : WorldState) (c : Change) → Forward w (plan_of w c)
forward-plan w Step = forward-step w
forward-plan w (SetReg r v) = forward-kept w _ (kept-plan w (SetReg r v) (λ e. absurd (cc)))
forward-plan w (SetCell p v) = forward-kept w _ (kept-plan w (SetCell p v) (λ e. absurd (cc)))
forward-plan w (SetLoc p) = forward-kept w _ (kept-plan w (SetLoc p) (λ e. absurd (cc)))
forward-plan w (SetOver b) = forward-kept w _ (kept-plan w (SetOver b) (λ e. absurd (cc)))
forward-plan w (SetCmp c) = forward-kept w _ (kept-plan w (SetCmp c) (λ e. absurd (cc)))
forward-plan w (Break p) = forward-kept w _ (kept-plan w (Break p) (λ e. absurd (cc)))
forward-plan w (Clear p) = forward-kept w _ (kept-plan w (Clear p) (λ e. absurd (cc)))

forward-state : (v w : WorldState) (r : Result Plan MixFault) → Forward v r → state_after v r ≡ Ok w → v.clock ≤ w.clock
forward-state v w (Ok p) h e =
    let same : write_all v (writes_of v p) ≡ w = cc in subst (λ (s : WorldState). v.clock ≤ s.clock) same h
forward-state v w (Err f) h e = absurd (cc)

kept-state : (v w : WorldState) (r : Result Plan MixFault) → Kept v r → state_after v r ≡ Ok w → w.clock ≡ v.clock
kept-state v w (Ok p) h e =
    let same : write_all v (writes_of v p) ≡ w = cc in subst (λ (s : WorldState). s.clock ≡ v.clock) same (sym h)
kept-state v w (Err f) h e = absurd (cc)

-- the clock goes no way but forward
pub clock-forward : (v w : WorldState) (c : Change) → does v c ≡ Ok w → v.clock ≤ w.clock
unfolding does
clock-forward v w c e = forward-state v w (plan_of v c) (forward-plan v c) e

-- none but a step moves it
pub clock-kept : (v w : WorldState) (c : Change) → c ≢ Step → does v c ≡ Ok w → w.clock ≡ v.clock
unfolding does
clock-kept v w c h e = kept-state v w (plan_of v c) (kept-plan v c h) e

-- a step is done at a cell
pub step-at-cell : (v w : WorldState) → IsWorld v → does v Step ≡ Ok w → v.loc < 4000
unfolding does
step-at-cell v w h e = let done = planned v w (plan_of v Step) refl e in at-cell v done.0 h done.1

-- and the state after a change is one of the machine
world-write_all : (w : WorldState) (xs : List Write) → IsWorld w → AllFit w xs → IsWorld (write_all w xs)
world-write_all w [] h f = h
world-write_all w (x ∷ xs) h f = world-write_all (written w x) xs (world-written w x h f.0) f.1

world-state : (v w : WorldState) (c : Change) (r : Result Plan MixFault) → IsWorld v → IsReal c → plan_of v c ≡ r → state_after v r ≡ Ok w → IsWorld w
world-state v w c (Ok p) h real q e =
    let same : write_all v (writes_of v p) ≡ w = cc (e) in
    let fits = plan-fits v c p h real q in
    subst IsWorld same (world-write_all v (writes_of v p) h (fit-writes_of v p h fits.0 fits.1))
world-state v w c (Err f) h real q e = absurd (cc (e))

pub world-after : (v w : WorldState) (c : Change) → IsWorld v → IsReal c → does v c ≡ Ok w → IsWorld w
unfolding does
world-after v w c h real e = world-state v w c (plan_of v c) h real refl e
