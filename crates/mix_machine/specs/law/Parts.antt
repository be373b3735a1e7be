-- A step ends in its clock, and no other value that a change keeps is a clock.
use Rattle.std.specs.Prelude.{ℕ, zero, suc, ◌+◌, ◌≡◌, Bool, true, false, not, nat_lt, length, List, [], ◌∷◌, ◌++◌, Result, Ok, Err, if◌then◌else◌, refl}
use Rattle.std.proofs.Common.{subst, arith}
use Rattle.undo_core.specs.Counts.{AreClosed, IsPart}
use Rattle.mix_word.specs.declared.decoding.Decoded.{Decoded}
use Rattle.mix_machine.specs.Registers.{fits_register}
use Rattle.mix_machine.specs.World.{WorldState, IsWorld, unit_at}
use Rattle.mix_machine.specs.units.UnitKind.{block_length, has_place, has_medium}
use Rattle.mix_machine.specs.Write.{Write, set, grow, print, value_at, replaced, written, kept_by, copies, each, place_after, from_block, from_cell, input_writes, replace_writes, append_writes, row_writes, output_writes, control_writes, writes_in, writes_of, is_clock}
use Rattle.mix_machine.specs.Decode.{decode_at, arguments_at}
use Rattle.mix_machine.specs.Effects.{effects}
use Rattle.mix_machine.specs.Order.{applies, operation_or_nop}
use Rattle.mix_machine.specs.Do.{does, kept_values, plan_of, state_after, values_kept, step_plan, step_or_fault, IsReal, is_step}
use Rattle.mix_machine.specs.law.Passed.{passed}
use Rattle.mix_machine.specs.declared.decode.Arguments.{Arguments}
use Rattle.mix_machine.specs.declared.units.kind.UnitKind.{UnitKind}
use Rattle.mix_machine.specs.declared.units.kind.UnitKind.TheVariants.{Tape, Disk, CardReader, CardPunch, Printer, Typewriter, PaperTape}
use Rattle.mix_machine.specs.declared.plan.Transfer.{Transfer}
use Rattle.mix_machine.specs.declared.plan.Plan.{Plan}
use Rattle.mix_machine.specs.declared.plan.Plan.TheVariants as plan
use Rattle.mix_machine.specs.declared.plan.Writes.{Writes}
use Rattle.mix_machine.specs.declared.plan.Writes.TheVariants.{Nothing, Register, RegisterAndToggle, Pair, PairAndToggle, Cell, Indicator, Copy, Input, Output, Control}
use Rattle.mix_machine.specs.declared.fault.MixFault.{MixFault}
use Rattle.mix_machine.specs.declared.fault.MixFault.TheVariants.{IndexOverflow}
use Rattle.mix_machine.specs.declared.old.Old.{Old}
use Rattle.mix_machine.specs.declared.old.Old.TheVariants as old
use Rattle.mix_machine.specs.declared.old.Change.{Change}
use Rattle.mix_machine.specs.declared.old.Change.TheVariants.{Step, SetReg, SetCell, SetLoc, SetOver, SetCmp, Break, Clear}

-- no write sets the clock
abbrev HasNoClock : List Write → Type 0
HasNoClock [] = Unit {0}
HasNoClock (set o ∷ xs) = (is_clock o ≡ false) × HasNoClock xs
HasNoClock (grow n gap block ∷ xs) = HasNoClock xs
HasNoClock (print n row ∷ xs) = HasNoClock xs

-- the value that stood there is a clock where the other one is
clock-at : (w : WorldState) (o : Old) → is_clock (value_at w o) ≡ is_clock o
clock-at w (old.Loc n) = refl
clock-at w (old.Clock t) = refl
clock-at w (old.Reg r v) = refl
clock-at w (old.Cell p v) = refl
clock-at w (old.Over b) = refl
clock-at w (old.Cmp c) = refl
clock-at w (old.Break p b) = refl
clock-at w (old.At n k) = refl
clock-at w (old.Len n k) = refl
clock-at w (old.Item n i j v) = refl
clock-at w (old.Until n t) = refl

closed-cons : (v : Old) (vs : List Old) → is_clock v ≡ false → AreClosed is_clock vs → AreClosed is_clock (v ∷ vs)
closed-cons v [] e h = absurd h
closed-cons v (u ∷ us) e h = (e, h)

no-clock-join : (xs ys : List Write) → HasNoClock xs → HasNoClock ys → HasNoClock (xs ++ ys)
no-clock-join [] ys h g = g
no-clock-join (set o ∷ xs) ys h g = (h.0, no-clock-join xs ys h.1 g)
no-clock-join (grow n gap block ∷ xs) ys h g = no-clock-join xs ys h g
no-clock-join (print n row ∷ xs) ys h g = no-clock-join xs ys h g

-- then what a step keeps is closed by its clock
closed-kept : (w : WorldState) (xs : List Write) (loc clock : ℕ) → HasNoClock xs →
    AreClosed is_clock (kept_by w (xs ++ set (old.Loc loc) ∷ set (old.Clock clock) ∷ []))
closed-kept w [] loc clock h = (refl, refl)
closed-kept w (set o ∷ xs) loc clock h =
    closed-cons (value_at w o) (kept_by (written w (set o)) (xs ++ set (old.Loc loc) ∷ set (old.Clock clock) ∷ []))
    (subst (λ b. is_clock (value_at w o) ≡ b) h.0 (clock-at w o)) (closed-kept (written w (set o)) xs loc clock h.1)
closed-kept w (grow n gap block ∷ xs) loc clock h =
    closed-cons (replaced w (grow n gap block)) (kept_by (written w (grow n gap block)) (xs ++ set (old.Loc loc) ∷ set (old.Clock clock) ∷ [])) refl
    (closed-kept (written w (grow n gap block)) xs loc clock h)
closed-kept w (print n row ∷ xs) loc clock h =
    closed-cons (replaced w (print n row)) (kept_by (written w (print n row)) (xs ++ set (old.Loc loc) ∷ set (old.Clock clock) ∷ [])) refl
    (closed-kept (written w (print n row)) xs loc clock h)

no-clock-copies : (n from to : ℕ) (w : WorldState) → HasNoClock (copies n from to w)
no-clock-copies zero from to w = tt
no-clock-copies (suc n) from to w = (refl, no-clock-copies n (from + 1) (to + 1) _)

no-clock-each : (n j : ℕ) (f : ℕ → Old) → ((i : ℕ) → is_clock (f i) ≡ false) → HasNoClock (each n j f)
no-clock-each zero j f h = tt
no-clock-each (suc n) j f h = (h j, no-clock-each n (j + 1) f h)

no-clock-if : (b : Bool) (xs ys : List Write) → HasNoClock xs → HasNoClock ys → HasNoClock (if b then xs else ys)
no-clock-if true xs ys h g = h
no-clock-if false xs ys h g = g

no-clock-place : (kind : UnitKind) (t : Transfer) → HasNoClock (place_after kind t)
no-clock-place kind t = no-clock-if (has_place kind) _ [] (refl, tt) tt

no-clock-input : (kind : UnitKind) (w : WorldState) (t : Transfer) → HasNoClock (input_writes kind w t)
no-clock-input kind w t =
    no-clock-join (place_after kind t) _ (no-clock-place kind t) (refl, no-clock-each (block_length kind) 0 (from_block w t) (λ i. refl))

no-clock-output : (kind : UnitKind) (w : WorldState) (t : Transfer) → HasNoClock (output_writes kind w t)
no-clock-output kind w t =
    no-clock-if (not (has_medium kind)) (row_writes kind w t) _ (refl, tt)
    (no-clock-if (nat_lt t.block (length (unit_at w t.unit).blocks)) (replace_writes kind w t) (append_writes kind w t)
    (no-clock-join (place_after kind t) _ (no-clock-place kind t) (refl, no-clock-each (block_length kind) 0 (from_cell w t) (λ i. refl)))
    (no-clock-join (place_after kind t) _ (no-clock-place kind t) (refl, tt)))

no-clock-control : (kind : UnitKind) (w : WorldState) (n k : ℕ) → HasNoClock (control_writes kind w n k)
no-clock-control Tape w n k = (refl, (refl, tt))
no-clock-control Disk w n k = (refl, tt)
no-clock-control CardReader w n k = tt
no-clock-control CardPunch w n k = tt
no-clock-control Printer w n k = (refl, tt)
no-clock-control Typewriter w n k = tt
no-clock-control PaperTape w n k = (refl, (refl, tt))

no-clock-in : (w : WorldState) (x : Writes) → HasNoClock (writes_in w x)
no-clock-in w Nothing = tt
no-clock-in w (Register r v) = (refl, tt)
no-clock-in w (RegisterAndToggle r v b) = (refl, (refl, tt))
no-clock-in w (Pair a x) = (refl, (refl, tt))
no-clock-in w (PairAndToggle a x b) = (refl, (refl, (refl, tt)))
no-clock-in w (Cell p v) = (refl, tt)
no-clock-in w (Indicator c) = (refl, tt)
no-clock-in w (Copy c) = no-clock-join (copies c.count c.from c.to w) _ (no-clock-copies c.count c.from c.to w) (refl, tt)
no-clock-in w (Input t) = no-clock-input (unit_at w t.unit).kind w t
no-clock-in w (Output t) = no-clock-output (unit_at w t.unit).kind w t
no-clock-in w (Control n k) = no-clock-control (unit_at w n).kind w n k

part-step : (d : Decoded) (w : WorldState) (a : Arguments) (t : WorldState) (r : Result Plan MixFault) → step_or_fault d w a ≡ r → state_after w r ≡ Ok t →
    AreClosed is_clock (values_kept w r)
part-step d w a t (Ok p) e g =
    let op = operation_or_nop d in
    let all = passed (applies d w a) (step_plan op w a) p e in
    subst (λ q. AreClosed is_clock (kept_by w (writes_of w q))) all.1 (closed-kept w (writes_in w (effects op w a).writes) _ _ (no-clock-in w (effects op w a).writes))
part-step d w a t (Err f) e g = absurd (cc)

part-value : (w : WorldState) (o : Old) → is_clock o ≡ false → IsPart is_clock false (value_at w o ∷ [])
part-value w o e = (omega arith, (subst (λ b. is_clock (value_at w o) ≡ b) e (clock-at w o), tt))

part-reg : (b : Bool) (w t : WorldState) (o : Old) → is_clock o ≡ false → state_after w (if b then Ok (plan.Value o) else Err IndexOverflow) ≡ Ok t →
    IsPart is_clock false (values_kept w (if b then Ok (plan.Value o) else Err IndexOverflow))
part-reg true w t o e g = part-value w o e
part-reg false w t o e g = absurd (cc)

-- a step ends by its clock, and nothing that another change keeps is a clock
pub parts-does : (w t : WorldState) (c : Change) → IsWorld w × IsReal c → does w c ≡ Ok t → IsPart is_clock (is_step c) (kept_values w c)
unfolding does kept_values plan_of
parts-does w t Step real g = part-step (decode_at w) w (arguments_at w) t (plan_of w Step) refl g
parts-does w t (SetReg r v) real g = part-reg (fits_register r v) w t (old.Reg r v) refl g
parts-does w t (SetCell p v) real g = part-value w (old.Cell p v) refl
parts-does w t (SetLoc p) real g = part-value w (old.Loc p) refl
parts-does w t (SetOver b) real g = part-value w (old.Over b) refl
parts-does w t (SetCmp c) real g = part-value w (old.Cmp c) refl
parts-does w t (Break p) real g = part-value w (old.Break p true) refl
parts-does w t (Clear p) real g = part-value w (old.Break p false) refl
