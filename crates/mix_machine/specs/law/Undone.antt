-- The plan of an accepted change fits, and taking back what it replaced gives the state before it.
use Rattle.std.specs.Prelude.{ℕ, Bool, true, false, not, ◌&&◌, cond, nat_le, nat_lt, ◌≡◌, ◌<◌, ◌≤◌, IsTrue, Some, Result, Ok, Err, refl}
use Rattle.std.proofs.Common.{subst, arith}
use Rattle.std.proofs.lemmas.Bool.Decides.{nat_tests}
use Rattle.undo_core.specs.Replay.{put_back}
use Rattle.mix_word.specs.declared.decoding.Decoded.{Decoded}
use Rattle.mix_word.specs.declared.operation.Operation.{Operation}
use Rattle.mix_machine.specs.Registers.{fits_register}
use Rattle.mix_machine.specs.World.{WorldState, IsWorld, last_clock}
use Rattle.mix_machine.specs.Write.{put_value, kept_by, write_all, writes_of}
use Rattle.mix_machine.specs.Decode.{is_cell, decode_at, arguments_at}
use Rattle.mix_machine.specs.Effects.{effects, reaches}
use Rattle.mix_machine.specs.Order.{applies, operation_or_nop, all_fit}
use Rattle.mix_machine.specs.Do.{does, kept_values, plan_of, state_after, values_kept, next_location, step_plan, step_or_fault, IsReal}
use Rattle.mix_machine.specs.law.Fits.{undone-write_all}
use Rattle.mix_machine.specs.law.Plans.{plan_fits, PlanFits, fit-writes_of}
use Rattle.mix_machine.specs.law.Accepted.{unit-fits}
use Rattle.mix_machine.specs.law.Passed.{passed}
use Rattle.mix_machine.specs.declared.decode.Arguments.{Arguments}
use Rattle.mix_machine.specs.declared.plan.Writes.{Writes}
use Rattle.mix_machine.specs.declared.plan.Plan.{Plan}
use Rattle.mix_machine.specs.declared.plan.Plan.TheVariants as plan
use Rattle.mix_machine.specs.declared.old.Old.TheVariants as old
use Rattle.mix_machine.specs.declared.fault.MixFault.{MixFault}
use Rattle.mix_machine.specs.declared.fault.MixFault.TheVariants.{IndexOverflow}
use Rattle.mix_machine.specs.declared.old.Change.{Change}
use Rattle.mix_machine.specs.declared.old.Change.TheVariants.{Step, SetReg, SetCell, SetLoc, SetOver, SetCmp, Break, Clear}

-- a jump that is taken goes to a cell
target : (op : Operation) (w : WorldState) (a : Arguments) → not (reaches op w a) ≡ false → (effects op w a).jumps ≡ true →
    is_cell a.m ≡ true
target _ w a h t = grind (arith, nat_tests)

within : (jumps : Bool) (w : WorldState) (a : Arguments) → w.loc < 4000 → (jumps ≡ true → is_cell a.m ≡ true) →
    next_location jumps w a ≤ 4000
within true w a h t = let cell = t refl in grind (arith, nat_tests)
within false w a h t = omega arith

fits-step : (w : WorldState) (x : Writes) (loc clock : ℕ) → not (all_fit x) ≡ false → loc ≤ 4000 → nat_lt last_clock clock ≡ false →
    IsTrue (plan_fits w (plan.Step x loc clock))
fits-step w x loc clock fit low time =
    elim (all_fit x) as (λ b. not b ≡ false → IsTrue (b && nat_le loc 4000 && nat_le clock last_clock)) [
      | true ↦ λ q. grind (arith, nat_tests)
      | false ↦ λ q. absurd (cc)
    ] fit

-- the plan of an accepted step fits
pub step-fits : (d : Decoded) (w : WorldState) (a : Arguments) (p : Plan) → IsWorld w → step_or_fault d w a ≡ Ok p →
    IsTrue (plan_fits w p) × PlanFits w p
step-fits d w a p h e =
    let op = operation_or_nop d in
    let all = passed (applies d w a) (step_plan op w a) p e in
    let low = h.loc in
    let not_last = all.0.location in
    let there : w.loc < 4000 = grind (arith, nat_tests) in
    let loc = within (effects op w a).jumps w a there (target op w a all.0.cell) in
    let units = unit-fits op w a h all.0.unit all.0.direction all.0.control all.0.cell all.0.block all.0.full all.0.clock in
    subst (λ q. IsTrue (plan_fits w q) × PlanFits w q) all.1 (fits-step w (effects op w a).writes _ _ all.0.overflow loc all.0.clock, units)

-- the plan of an accepted change fits
pub plan-fits : (w : WorldState) (c : Change) (p : Plan) → IsWorld w → IsReal c → plan_of w c ≡ Ok p →
    IsTrue (plan_fits w p) × PlanFits w p
unfolding plan_of
plan-fits w Step p h r e = step-fits (decode_at w) w (arguments_at w) p h e
plan-fits w (SetReg at v) p h r e =
    elim (fits_register at v) as (λ b. fits_register at v ≡ b → cond b (Ok (plan.Value (old.Reg at v))) (Err IndexOverflow) ≡ Ok p → IsTrue (plan_fits w p) × PlanFits w p) [
      | true ↦ λ f q. let same : plan.Value (old.Reg at v) ≡ p = cc in subst (λ q. IsTrue (plan_fits w q) × PlanFits w q) same (f, tt)
      | false ↦ λ f q. absurd (cc)
    ] refl e
plan-fits w (SetCell at v) p h r e =
    let same : plan.Value (old.Cell at v) ≡ p = cc in subst (λ q. IsTrue (plan_fits w q) × PlanFits w q) same (grind (arith, nat_tests), tt)
plan-fits w (SetLoc at) p h r e =
    let same : plan.Value (old.Loc at) ≡ p = cc in subst (λ q. IsTrue (plan_fits w q) × PlanFits w q) same (grind (arith, nat_tests), tt)
plan-fits w (SetOver b) p h r e =
    let same : plan.Value (old.Over b) ≡ p = cc in subst (λ q. IsTrue (plan_fits w q) × PlanFits w q) same (refl, tt)
plan-fits w (SetCmp c) p h r e =
    let same : plan.Value (old.Cmp c) ≡ p = cc in subst (λ q. IsTrue (plan_fits w q) × PlanFits w q) same (refl, tt)
plan-fits w (Break at) p h r e =
    let same : plan.Value (old.Break at true) ≡ p = cc in subst (λ q. IsTrue (plan_fits w q) × PlanFits w q) same (grind (arith, nat_tests), tt)
plan-fits w (Clear at) p h r e =
    let same : plan.Value (old.Break at false) ≡ p = cc in subst (λ q. IsTrue (plan_fits w q) × PlanFits w q) same (grind (arith, nat_tests), tt)

undone-state_after : (w t : WorldState) (c : Change) (r : Result Plan MixFault) → IsWorld w → IsReal c → plan_of w c ≡ r → state_after w r ≡ Ok t →
    put_back put_value (values_kept w r) t ≡ Some w
undone-state_after w t c (Ok p) h real e g =
    let same : write_all w (writes_of w p) ≡ t = cc (g) in
    subst (λ s. put_back put_value (kept_by w (writes_of w p)) s ≡ Some w) same
    (let fits = plan-fits w c p h real e in undone-write_all w (writes_of w p) h (fit-writes_of w p h fits.0 fits.1))
undone-state_after w t c (Err f) h real e g = cc

-- putting back what an accepted change replaced gives the state before it
pub undone-does : (w t : WorldState) (c : Change) → IsWorld w × IsReal c → does w c ≡ Ok t → put_back put_value (kept_values w c) t ≡ Some w
unfolding does kept_values
undone-does w t c real g = undone-state_after w t c (plan_of w c) real.0 real.1 refl g
