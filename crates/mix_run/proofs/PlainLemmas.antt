-- Steps of no unit: they make nothing of a transfer and alter no unit, so that no row is printed.
use Rattle.std.specs.Prelude.{◌≡◌, ◌↔◌, ℕ, zero, suc, Bool, true, false, cond, ◌||◌, ◌&&◌, ◌==◌, ◌<◌, ◌≤◌, nat_le, nat_lt, not, List, [], ◌∷◌, ◌++◌, Option, None, Some, Result, Ok, Err, refl, ◌+◌}
use Rattle.std.proofs.Common.{append_assoc, ◌∙◌, ap, arith, subst, sym}
use Rattle.mix_word.specs.Prelude.{operation_code, decode_of, IsNamedBy, WordValue}
use Rattle.mix_word.specs.declared.decoding.Decoded.{Decoded}
use Rattle.mix_word.specs.declared.decoding.Decoded.TheVariants.{Named, Floating, Unknown}
use Rattle.mix_word.specs.declared.register.DataReg.{DataReg}
use Rattle.mix_word.specs.declared.register.DataReg.TheVariants.{A, I1, I2, I3, I4, I5, I6, X}
use Rattle.mix_word.specs.declared.operation.ShiftKind.{ShiftKind}
use Rattle.mix_word.specs.declared.operation.ShiftKind.TheVariants.{Sla, Sra, Slax, Srax, Slc, Src}
use Rattle.mix_word.specs.declared.operation.JumpKind.{JumpKind}
use Rattle.mix_word.specs.declared.operation.Operation.{Operation}
use Rattle.mix_word.specs.declared.operation.Operation.TheVariants.{Nop, Add, Sub, Mul, Div, Num, Char, Hlt, Shift, Move, Load, LoadNegated, Store, StoreJ, StoreZero, Jbus, Ioc, In, Out, Jred, Jump, RegisterJump, Increase, Decrease, Enter, EnterNegated, Compare}
use Rattle.mix_word.specs.declared.register.Reg.TheVariants as reg
use Rattle.mix_word.specs.declared.operation.JumpKind.TheVariants.{Jmp, Jsj, Jov, Jnov, Less, Equal, Greater, GreaterEqual, NotEqual, LessEqual}
use Rattle.mix_machine.specs.World.{IsWorld, WorldState, cell_of, with_cell}
use Rattle.mix_machine.specs.Prelude.{instruction, decode_at, arguments_at, IsReal, does, is_looked_at, is_plain_next, is_step, kept_values, plan_of, state_after, step_plan, jump_writes, effects, sum_into, shift_into, quotient_into, copy_of, applies, operation_or_nop, TransfersState, conflict_of, last_end, made_by, transfer_by, Write, set, copies, write_all, writes_in, writes_of, passed, UnitsState}
use Rattle.mix_machine.specs.declared.fault.MixFault.{MixFault}
use Rattle.mix_machine.specs.declared.old.Change.{Change}
use Rattle.mix_machine.specs.declared.old.Change.TheVariants.{Step}
use Rattle.mix_machine.specs.declared.old.Old.{Old}
use Rattle.mix_machine.specs.declared.transfers.Pending.{Pending}
use Rattle.mix_machine.specs.declared.old.Old.TheVariants as old
use Rattle.undo_core.specs.Repeat.{Repeats}
use Rattle.mix_run.specs.Prelude.{Run, printed, printed_first, stops, written_by, PrintOptions}
use Rattle.mix_run.specs.PrintSteps.{HasCounts, IsPlain}
use Rattle.mix_run.specs.declared.print.rows.RowCounts.{RowCounts}
use Rattle.mix_run.proofs.PrintLemmas.{none-between}
use Rattle.mix_run.proofs.PrintRunLemmas.{run-on, stops-none}

-- ---- what operations write that are of no unit

-- What is made of a transfer is nothing, and writes that are followed by a location and a clock leave the units as they are.
record IsApart (w : WorldState) (made : Option (ℕ × Option Pending)) (xs : List Write) : Type 0 where
  pub still : made ≡ None
  pub units : (loc clock : ℕ) → (write_all w (xs ++ set (old.Loc loc) ∷ set (old.Clock clock) ∷ [])).units ≡ w.units

sum-apart : (r : DataReg) (w v : WorldState) (s : WordValue × Bool) → IsApart w (made_by w (sum_into r v s)) (writes_in w (sum_into r v s))
sum-apart A w v s = record { still = refl; units = λ loc clock. refl }
sum-apart X w v s = record { still = refl; units = λ loc clock. refl }
sum-apart I1 w v s = record { still = refl; units = λ loc clock. refl }
sum-apart I2 w v s = record { still = refl; units = λ loc clock. refl }
sum-apart I3 w v s = record { still = refl; units = λ loc clock. refl }
sum-apart I4 w v s = record { still = refl; units = λ loc clock. refl }
sum-apart I5 w v s = record { still = refl; units = λ loc clock. refl }
sum-apart I6 w v s = record { still = refl; units = λ loc clock. refl }

shift-apart : (kind : ShiftKind) (w : WorldState) (p : WordValue × WordValue) → IsApart w (made_by w (shift_into kind p)) (writes_in w (shift_into kind p))
shift-apart Sla w p = record { still = refl; units = λ loc clock. refl }
shift-apart Sra w p = record { still = refl; units = λ loc clock. refl }
shift-apart Slax w p = record { still = refl; units = λ loc clock. refl }
shift-apart Srax w p = record { still = refl; units = λ loc clock. refl }
shift-apart Slc w p = record { still = refl; units = λ loc clock. refl }
shift-apart Src w p = record { still = refl; units = λ loc clock. refl }

jump-apart : (kind : JumpKind) (w : WorldState) (j : WordValue) → IsApart w (made_by w (jump_writes kind j)) (writes_in w (jump_writes kind j))
jump-apart Jmp w j = record { still = refl; units = λ loc clock. refl }
jump-apart Jsj w j = record { still = refl; units = λ loc clock. refl }
jump-apart Jov w j = record { still = refl; units = λ loc clock. refl }
jump-apart Jnov w j = record { still = refl; units = λ loc clock. refl }
jump-apart Less w j = record { still = refl; units = λ loc clock. refl }
jump-apart Equal w j = record { still = refl; units = λ loc clock. refl }
jump-apart Greater w j = record { still = refl; units = λ loc clock. refl }
jump-apart GreaterEqual w j = record { still = refl; units = λ loc clock. refl }
jump-apart NotEqual w j = record { still = refl; units = λ loc clock. refl }
jump-apart LessEqual w j = record { still = refl; units = λ loc clock. refl }

quotient-apart : (w v : WorldState) (q : Option (WordValue × WordValue)) → IsApart w (made_by w (quotient_into v q)) (writes_in w (quotient_into v q))
quotient-apart w v (Some q) = record { still = refl; units = λ loc clock. refl }
quotient-apart w v None = record { still = refl; units = λ loc clock. refl }

copies-keep : (n from to : ℕ) (w : WorldState) (rest : List Write) (us : UnitsState) → ((v : WorldState) → v.units ≡ us → (write_all v rest).units ≡ us)
    → w.units ≡ us → (write_all w (copies n from to w ++ rest)).units ≡ us
copies-keep zero from to w rest us keeps e = keeps w e
copies-keep (suc n) from to w rest us keeps e =
    copies-keep n (from + 1) (to + 1) (with_cell w to (cell_of w from)) rest us keeps e

copy-keeps : (n from to : ℕ) (index : WordValue) (w : WorldState) (loc clock : ℕ) →
    (write_all w ((copies n from to w ++ set (old.Reg reg.I1 index) ∷ []) ++ set (old.Loc loc) ∷ set (old.Clock clock) ∷ [])).units ≡ w.units
copy-keeps n from to index w loc clock =
    rw (append_assoc (copies n from to w) (set (old.Reg reg.I1 index) ∷ []) (set (old.Loc loc) ∷ set (old.Clock clock) ∷ []))
    (copies-keep n from to w (set (old.Reg reg.I1 index) ∷ set (old.Loc loc) ∷ set (old.Clock clock) ∷ []) w.units (λ v e. e) refl)

cond-both : {A : Type 0} (b : Bool) (P : A → Type 0) (x y : A) → P x → P y → P (cond b x y)
cond-both true P x y l r = l
cond-both false P x y l r = r

copy-apart : (w : WorldState) → IsApart w (made_by w (copy_of w (arguments_at w))) (writes_in w (copy_of w (arguments_at w)))
copy-apart w =
    cond-both ((arguments_at w).f == 0) (λ x. IsApart w (made_by w x) (writes_in w x)) _ _ (record { still = refl; units = λ loc clock. refl }) (record {
      still = refl;
      units = copy-keeps (arguments_at w).f (arguments_at w).m.magnitude w.registers.i1.magnitude _ w;
    })

-- whether C is that of IOC, IN or OUT
abbrev moves : ℕ → Bool
moves code = nat_le 35 code && nat_le code 37

operation-apart : (op : Operation) (w : WorldState) → moves (operation_code op) ≡ false →
    IsApart w (made_by w (effects op w (arguments_at w)).writes) (writes_in w (effects op w (arguments_at w)).writes)
operation-apart Nop w h = record { still = refl; units = λ loc clock. refl }
operation-apart Add w h = record { still = refl; units = λ loc clock. refl }
operation-apart Sub w h = record { still = refl; units = λ loc clock. refl }
operation-apart Mul w h = record { still = refl; units = λ loc clock. refl }
operation-apart Div w h = quotient-apart w w _
operation-apart Num w h = record { still = refl; units = λ loc clock. refl }
operation-apart Char w h = record { still = refl; units = λ loc clock. refl }
operation-apart Hlt w h = record { still = refl; units = λ loc clock. refl }
operation-apart (Shift kind) w h = shift-apart kind w _
operation-apart Move w h = copy-apart w
operation-apart (Load r) w h = record { still = refl; units = λ loc clock. refl }
operation-apart (LoadNegated r) w h = record { still = refl; units = λ loc clock. refl }
operation-apart (Store r) w h = record { still = refl; units = λ loc clock. refl }
operation-apart StoreJ w h = record { still = refl; units = λ loc clock. refl }
operation-apart StoreZero w h = record { still = refl; units = λ loc clock. refl }
operation-apart Jbus w h = record { still = refl; units = λ loc clock. refl }
operation-apart Ioc w h = absurd cc
operation-apart In w h = absurd cc
operation-apart Out w h = absurd cc
operation-apart Jred w h = record { still = refl; units = λ loc clock. refl }
operation-apart (Jump kind) w h = jump-apart kind w _
operation-apart (RegisterJump r condition) w h = record { still = refl; units = λ loc clock. refl }
operation-apart (Increase r) w h = sum-apart r w w _
operation-apart (Decrease r) w h = sum-apart r w w _
operation-apart (Enter r) w h = record { still = refl; units = λ loc clock. refl }
operation-apart (EnterNegated r) w h = record { still = refl; units = λ loc clock. refl }
operation-apart (Compare r) w h = record { still = refl; units = λ loc clock. refl }

decoded-apart : (w : WorldState) (d : Decoded) (c f : ℕ) → ((op : Operation) → d ≡ Named op → IsNamedBy op c f) → moves c ≡ false →
    IsApart w (made_by w (effects (operation_or_nop d) w (arguments_at w)).writes) (writes_in w (effects (operation_or_nop d) w (arguments_at w)).writes)
decoded-apart w (Named op) c f law h = operation-apart op w (rw (law op refl).0 h)
decoded-apart w Floating c f law h = record { still = refl; units = λ loc clock. refl }
decoded-apart w Unknown c f law h = record { still = refl; units = λ loc clock. refl }

-- ---- the instruction has another code

-- what is written of a plan, if that of one plan is
carried : {X : Type 0} (after : Result X MixFault → Result WorldState MixFault) (given : X → WorldState) (r : Result X MixFault) (p : X) (next : WorldState)
    (us : UnitsState) → ((x : X) → after (Ok x) ≡ Ok (given x)) → ((fault : MixFault) → after (Err fault) ≡ Err fault) → ((q : X) → r ≡ Ok q → p ≡ q)
    → (given p).units ≡ us → after r ≡ Ok next → next.units ≡ us
carried after given (Ok q) p next us goes stops law keeps done =
    let same : p ≡ q = law q refl in
    let gives : given p ≡ next = rw same (cc (goes q)) in
    rw gives at keeps
carried after given (Err fault) p next us goes stops law keeps done = absurd (cc (stops fault))

no-middle : (a b c : Bool) → b ≡ false → (a && b && c) ≡ false
no-middle true true c h = absurd cc
no-middle true false c h = refl
no-middle false b c h = refl

neither : (a b : Bool) → (a || b) ≡ false → (a ≡ false) × (b ≡ false)
neither true b h = absurd cc
neither false b h = (refl, h)

other-code : (a b : Bool) → (a && not b) ≡ true → b ≡ false
other-code true true h = absurd cc
other-code true false h = refl
other-code false b h = absurd cc

pub plain-of : (w : WorldState) → ((c f : ℕ) (op : Operation) → (decode_of c f ≡ Named op) ↔ IsNamedBy op c f) → is_plain_next w ≡ true → IsPlain w
unfolding transfer_by does plan_of
plain-of w law h =
    let code = (instruction w).code in
    let other = neither (code == 5) (moves code) (other-code (nat_lt w.loc 4000) (is_looked_at code) h) in
    let apart = decoded-apart w (decode_at w) code (instruction w).f (λ op. (law code (instruction w).f op).0) other.1 in
    record {
      goes_on = no-middle _ _ _ other.0;
      still = apart.still;
      units = λ next done. carried (state_after w) (λ p. write_all w (writes_of w p)) (plan_of w Step)
          (step_plan (operation_or_nop (decode_at w)) w (arguments_at w)) next w.units (λ p. refl) (λ fault. refl)
          (λ q ok. (passed (applies (decode_at w) w (arguments_at w)) _ q ok).1) (apart.units _ _) done;
    }

-- ---- such a step writes nothing, and the run goes on from it

same-run : (run : Run) → printed_first [] [] run ≡ run
same-run run = refl

pub plain-goes : (options : PrintOptions) (number steps rest : ℕ) (ts : TransfersState) (w next : WorldState) → steps ≡ suc rest → options.trace ≡ false
    → conflict_of ts w Step ≡ None → IsPlain w → does w Step ≡ Ok next → printed options number steps ts w ≡ printed options (number + 1) rest ts next
plain-goes options number steps rest ts w next e unseen apart plain done =
    let nothing : written_by options number w next ≡ [] = rw (unseen, none-between options.units w next (plain.units next done)) refl in
    let free : stops options.strict (conflict_of ts w Step) ≡ None = rw (apart, stops-none options.strict) refl in
    let on = run-on options number steps rest ts w next e free done plain.goes_on in
    on ∙ rw (nothing, apart, plain.still) (same-run _)

-- What is left of a run after some steps is the run of all, the units are as they were, and all transfers are over.
pub record GoesOn (options : PrintOptions) (number later steps left : ℕ) (ts : TransfersState) (w next : WorldState) : Type 0 where
  pub same : printed options number steps ts w ≡ printed options later left ts next
  pub units : next.units ≡ w.units
  pub over : last_end ts ≤ next.clock

-- so many steps, each of which is plain
module _ (options : PrintOptions) (ts : TransfersState) (unseen : options.trace ≡ false)
    (decoded : (c f : ℕ) (op : Operation) → (decode_of c f ≡ Named op) ↔ IsNamedBy op c f)
    (forward : (v w : WorldState) (c : Change) → does v c ≡ Ok w → v.clock ≤ w.clock)
    (apart : (w : WorldState) (c : Change) → last_end ts ≤ w.clock → conflict_of ts w c ≡ None) where
  pub many-go : (n number later steps left : ℕ) (w next : WorldState) (olds : List Old) → later ≡ number + n → steps ≡ left + n → last_end ts ≤ w.clock
      → (0 < n → is_plain_next w ≡ true)
      → Repeats (λ v c. IsWorld v × IsReal c) does kept_values (λ v c. is_step c && is_plain_next v) Step n w next olds
      → GoesOn options number later steps left ts w next
  many-go zero number later steps left w next olds number_is steps_are over plain did = record {
    same = ap (λ n. printed options n steps ts w) (omega (arith, number_is)) ∙ ap (λ n. printed options later n ts w) (omega (arith, steps_are))
        ∙ ap (λ v. printed options later left ts v) (sym did.0);
    units = ap (λ v. v.units) did.0;
    over = subst (λ v. last_end ts ≤ v.clock) (sym did.0) over;
  }
  many-go (suc n) number later steps left w next olds number_is steps_are over plain did =
      let then = did.1.0 in
      let done = did.1.1 in
      let is = plain-of w decoded (plain (omega arith)) in
      let on = many-go n (number + 1) later (left + n) left then next did.1.3.0 (omega (arith, number_is)) refl (omega (arith, over, forward w then Step done))
      did.1.2 did.1.3.2 in
      record {
        same = plain-goes options number steps (left + n) ts w then (omega (arith, steps_are)) unseen (apart w Step over) is done ∙ on.same;
        units = on.units ∙ is.units then done;
        over = on.over;
      }

-- the units are the same, and so are the numbers of their rows
pub same-counts : (w next : WorldState) (counts : RowCounts) → next.units ≡ w.units → HasCounts w counts → HasCounts next counts
same-counts w next counts e h = record {
  card_punch = rw e h.card_punch;
  printer = rw e h.printer;
  typewriter = rw e h.typewriter;
  paper_tape = rw e h.paper_tape;
}
