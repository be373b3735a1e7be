-- The number of old values that an accepted change keeps.
use Rattle.std.proofs.Common.{ℕ, suc, ◌+◌, ◌-◌, ◌*◌, ◌<◌, ◌≡◌, ◌≤◌, ◌∙◌, ◌==◌, Bool, true, false, not, cond, ◌++◌, List, [], ◌∷◌, Option, Some, None, Result, Ok, Err, length, refl, ap, subst, arith, length-append}
use Rattle.std.specs.Option.{option_map_or}
use Rattle.std.specs.Result.{result_ok, is_ok}
use Rattle.undo_core.specs.Replay.{count_kept}
use Rattle.mix_word.specs.Prelude.{WordValue, plus, sum_of}
use Rattle.mix_word.specs.declared.register.DataReg.{DataReg}
use Rattle.mix_word.specs.declared.register.DataReg.TheVariants.{A, I1, I2, I3, I4, I5, I6, X}
use Rattle.mix_word.specs.declared.operation.ShiftKind.{ShiftKind}
use Rattle.mix_word.specs.declared.operation.ShiftKind.TheVariants.{Sla, Sra, Slax, Srax, Slc, Src}
use Rattle.mix_word.specs.declared.operation.JumpKind.{JumpKind}
use Rattle.mix_word.specs.declared.decoding.Decoded.{Decoded}
use Rattle.mix_word.specs.declared.operation.Operation.{Operation}
use Rattle.mix_word.specs.declared.operation.Operation.TheVariants.{Div, Shift, Move, Ioc, In, Out, Jump, Increase, Decrease}
use Rattle.mix_word.specs.declared.operation.JumpKind.TheVariants.{Jmp, Jsj, Jov, Jnov, Less, Equal, Greater, GreaterEqual, NotEqual, LessEqual}
use Rattle.mix_machine.specs.Prelude.{fits_register, WorldState, unit_at, block_length, has_place, has_medium, UnitKind, Tape, Disk, CardReader, CardPunch, Printer, Typewriter, PaperTape, Transfer, Old, Write, set, grow, words_out, writes_in, writes_of, copies, each, busy, from_block, from_cell, replace_writes, append_writes, row_writes, control_writes, decode_at, arguments_at, jump_writes, applies, operation_or_nop, passed, Arguments, Plan, Writes, Nothing, Copy, MixFault, IndexOverflow, Change, Step, SetReg, SetCell, SetLoc, SetOver, SetCmp, Break, Clear}
use Rattle.mix_machine.specs.UnitAction.{wound}
use Rattle.mix_machine.specs.Effects.{effects, sum_into, shift_into, quotient_into, copy_of, transfer_of}
use Rattle.mix_machine.specs.Do.{does, kept_values, plan_of, values_kept, step_plan, step_or_fault}
use Rattle.mix_machine.specs.KeptCount.{beside, beside_sum, beside_shift, beside_jump, beside_block, beside_in, beside_out, beside_control, count_of, kept_count, most_kept}
use Rattle.mix_machine.specs.declared.plan.Plan.TheVariants as plan
use Rattle.mix_machine.specs.declared.old.Old.TheVariants as old
use Rattle.mix_machine.proofs.EachLemmas.{length-each}
use Rattle.mix_machine.proofs.WriteLemmas.{length-copies, length-kept_by}

-- how many values an operation's writes keep
abbrev number : WorldState → Writes → ℕ
number w x = length (writes_in w x)

number-sum : (r : DataReg) (w v : WorldState) (s : WordValue × Bool) → number w (sum_into r v s) ≡ beside_sum r
number-sum A w v s = refl
number-sum X w v s = refl
number-sum I1 w v s = refl
number-sum I2 w v s = refl
number-sum I3 w v s = refl
number-sum I4 w v s = refl
number-sum I5 w v s = refl
number-sum I6 w v s = refl

number-shift : (kind : ShiftKind) (w : WorldState) (p : WordValue × WordValue) → number w (shift_into kind p) ≡ beside_shift kind
number-shift Sla w p = refl
number-shift Sra w p = refl
number-shift Slax w p = refl
number-shift Srax w p = refl
number-shift Slc w p = refl
number-shift Src w p = refl

number-jump : (kind : JumpKind) (w : WorldState) (j : WordValue) → number w (jump_writes kind j) ≡ beside_jump kind
number-jump Jmp w j = refl
number-jump Jsj w j = refl
number-jump Jov w j = refl
number-jump Jnov w j = refl
number-jump Less w j = refl
number-jump Equal w j = refl
number-jump Greater w j = refl
number-jump GreaterEqual w j = refl
number-jump NotEqual w j = refl
number-jump LessEqual w j = refl

number-quotient : (w v : WorldState) (q : Option (WordValue × WordValue)) → number w (quotient_into v q) ≡ 3
number-quotient w v (Some q) = refl
number-quotient w v None = refl

number-copy : (w : WorldState) (a : Arguments) → number w (copy_of w a) ≡ cond (a.f == 0) 0 (a.f + 1)
number-copy w a =
    elim (a.f == 0) as (λ b. number w (cond b Nothing (Copy (record { count = a.f; from = a.m.magnitude; to = w.registers.i1.magnitude; index = (sum_of w.registers.i1 (plus a.f)).0 }))) ≡ cond b 0 (a.f + 1)) [
      | true ↦ refl
      | false ↦ length-append (copies a.f a.m.magnitude w.registers.i1.magnitude w) _ ∙ ap (λ n. n + 1) (length-copies a.f a.m.magnitude w.registers.i1.magnitude w)
    ]

number-block : (b : Bool) (size : ℕ) (w : WorldState) (t : Transfer) (f : ℕ → Old) →
    length (cond b (set (old.At t.unit (t.block + 1)) ∷ []) [] ++ busy w t.unit ∷ each size 0 f) ≡ size + cond b 2 1
number-block true size w t f = ap (λ n. suc (suc n)) (length-each size 0 f) ∙ omega arith
number-block false size w t f = ap suc (length-each size 0 f) ∙ omega arith

number-append : (b : Bool) (x y : Write) (w : WorldState) (t : Transfer) →
    length (x ∷ cond b (set (old.At t.unit (t.block + 1)) ∷ []) [] ++ y ∷ []) ≡ 1 + cond b 2 1
number-append true x y w t = refl
number-append false x y w t = refl

number-out : (kind : UnitKind) (m there : Bool) (w : WorldState) (t : Transfer) →
    length (cond (not m) (row_writes kind w t) (cond there (replace_writes kind w t) (append_writes kind w t)))
    ≡ cond m (cond there (block_length kind) 1 + beside_block kind) 2
number-out kind false there w t = refl
number-out kind true true w t = number-block (has_place kind) (block_length kind) w t (from_cell w t)
number-out kind true false w t = number-append (has_place kind) (grow t.unit (t.block - length (unit_at w t.unit).blocks) (words_out kind w t)) (busy w t.unit) w t

number-control : (kind : UnitKind) (w : WorldState) (n k : ℕ) → length (control_writes kind w n k) ≡ beside_control kind
number-control Tape w n k = refl
number-control Disk w n k = refl
number-control CardReader w n k = refl
number-control CardPunch w n k = refl
number-control Printer w n k = refl
number-control Typewriter w n k = refl
number-control PaperTape w n k = refl

number-effects : (op : Operation) (w : WorldState) (a : Arguments) → number w (effects op w a).writes ≡ beside op w a
number-effects Div w a = number-quotient w w _
number-effects (Shift kind) w a = number-shift kind w _
number-effects Move w a = number-copy w a
number-effects Ioc w a = number-control (unit_at w a.f).kind w a.f (wound (unit_at w a.f) a.m)
number-effects In w a =
    let kind = (unit_at w a.f).kind in
    number-block (has_place kind) (block_length kind) w (transfer_of w a) (from_block w (transfer_of w a))
number-effects Out w a = number-out (unit_at w a.f).kind (has_medium (unit_at w a.f).kind) _ w (transfer_of w a)
number-effects (Jump kind) w a = number-jump kind w _
number-effects (Increase r) w a = number-sum r w w _
number-effects (Decrease r) w a = number-sum r w w _
number-effects _ w a = refl

number-step : (op : Operation) (w : WorldState) (a : Arguments) → length (writes_of w (step_plan op w a)) ≡ 2 + beside op w a
number-step op w a =
    length-append (writes_in w (effects op w a).writes) _ ∙ ap (λ n. n + 2) (number-effects op w a) ∙ omega arith

-- the number of values that an accepted change writes is that of the table
pub number-written : (w : WorldState) (c : Change) (p : Plan) → plan_of w c ≡ Ok p → length (writes_of w p) ≡ count_of w c
unfolding plan_of
number-written w Step p e =
    let op = operation_or_nop (decode_at w) in
    let a = arguments_at w in
    let same = passed (applies (decode_at w) w a) (step_plan op w a) p e in
    subst (λ q. length (writes_of w q) ≡ count_of w Step) same.1 (number-step op w a)
number-written w (SetReg r v) p e =
    elim (fits_register r v) as (λ b. cond b (Ok (plan.Value (old.Reg r v))) (Err IndexOverflow) ≡ Ok p → length (writes_of w p) ≡ 1) [
      | true ↦ λ q. let same : plan.Value (old.Reg r v) ≡ p = cc in subst (λ q. length (writes_of w q) ≡ 1) same refl
      | false ↦ λ q. absurd (cc)
    ] e
number-written w (SetCell at v) p e =
    let same : plan.Value (old.Cell at v) ≡ p = cc in subst (λ q. length (writes_of w q) ≡ 1) same refl
number-written w (SetLoc at) p e =
    let same : plan.Value (old.Loc at) ≡ p = cc in subst (λ q. length (writes_of w q) ≡ 1) same refl
number-written w (SetOver b) p e =
    let same : plan.Value (old.Over b) ≡ p = cc in subst (λ q. length (writes_of w q) ≡ 1) same refl
number-written w (SetCmp c) p e =
    let same : plan.Value (old.Cmp c) ≡ p = cc in subst (λ q. length (writes_of w q) ≡ 1) same refl
number-written w (Break at) p e =
    let same : plan.Value (old.Break at true) ≡ p = cc in subst (λ q. length (writes_of w q) ≡ 1) same refl
number-written w (Clear at) p e =
    let same : plan.Value (old.Break at false) ≡ p = cc in subst (λ q. length (writes_of w q) ≡ 1) same refl

counted-plan : (w : WorldState) (c : Change) (r : Result Plan MixFault) → plan_of w c ≡ r → length (values_kept w r) ≡ cond (is_ok r) (count_of w c) 0
counted-plan w c (Ok p) e = length-kept_by w (writes_of w p) ∙ number-written w c p e
counted-plan w c (Err f) e = refl

-- a change keeps as many values as the table says
pub counted : (w : WorldState) (c : Change) → length (kept_values w c) ≡ kept_count w c
unfolding kept_values kept_count
counted w c = counted-plan w c (plan_of w c) refl

few-sum : (r : DataReg) → 2 + beside_sum r ≤ most_kept
few-sum A = omega arith
few-sum X = omega arith
few-sum _ = omega arith

few-shift : (kind : ShiftKind) → 2 + beside_shift kind ≤ most_kept
few-shift Sla = omega arith
few-shift Sra = omega arith
few-shift _ = omega arith

few-jump : (kind : JumpKind) → 2 + beside_jump kind ≤ most_kept
few-jump Jsj = omega arith
few-jump Jov = omega arith
few-jump Jnov = omega arith
few-jump _ = omega arith

few-copies : (n : ℕ) → n < 64 → 2 + cond (n == 0) 0 (n + 1) ≤ most_kept
few-copies n h =
    elim (n == 0) as (λ b. 2 + cond b 0 (n + 1) ≤ most_kept) [
      | true ↦ omega arith
      | false ↦ omega arith
    ]

few-in : (kind : UnitKind) → 2 + beside_in kind ≤ most_kept
few-in Tape = omega arith
few-in Disk = omega arith
few-in CardReader = omega arith
few-in CardPunch = omega arith
few-in Printer = omega arith
few-in Typewriter = omega arith
few-in PaperTape = omega arith

few-out : (kind : UnitKind) (there : Bool) → 2 + beside_out kind there ≤ most_kept
few-out Tape true = omega arith
few-out Tape false = omega arith
few-out Disk true = omega arith
few-out Disk false = omega arith
few-out CardReader there = omega arith
few-out CardPunch there = omega arith
few-out Printer there = omega arith
few-out Typewriter there = omega arith
few-out PaperTape there = omega arith

few-control : (kind : UnitKind) → 2 + beside_control kind ≤ most_kept
few-control Tape = omega arith
few-control Disk = omega arith
few-control CardReader = omega arith
few-control CardPunch = omega arith
few-control Printer = omega arith
few-control Typewriter = omega arith
few-control PaperTape = omega arith

few-beside : (op : Operation) (w : WorldState) (a : Arguments) → a.f < 64 → 2 + beside op w a ≤ most_kept
few-beside (Shift kind) w a h = few-shift kind
few-beside Move w a h = few-copies a.f h
few-beside Ioc w a h = few-control (unit_at w a.f).kind
few-beside In w a h = few-in (unit_at w a.f).kind
few-beside Out w a h = few-out (unit_at w a.f).kind _
few-beside (Jump kind) w a h = few-jump kind
few-beside (Increase r) w a h = few-sum r
few-beside (Decrease r) w a h = few-sum r
few-beside _ w a h = omega arith

-- no change keeps more than the most
pub few : (w : WorldState) (c : Change) → count_of w c ≤ most_kept
few w Step =
    let f : (arguments_at w).f < 64 = omega arith in
    few-beside (operation_or_nop (decode_at w)) w (arguments_at w) f
few w (SetReg r v) = omega arith
few w (SetCell p v) = omega arith
few w (SetLoc p) = omega arith
few w (SetOver b) = omega arith
few w (SetCmp c) = omega arith
few w (Break p) = omega arith
few w (Clear p) = omega arith

pub few_kept : (w : WorldState) (c : Change) → kept_count w c ≤ most_kept
unfolding kept_count
few_kept w c =
    elim (is_ok (plan_of w c)) as (λ b. cond b (count_of w c) 0 ≤ most_kept) [
      | true ↦ few w c
      | false ↦ omega arith
    ]

-- so a list of changes keeps no more than that for each
pub few_in_all : (w : WorldState) (cs : List Change) → count_kept does kept_values w cs ≤ most_kept * length cs
few_in_all w [] = omega arith
few_in_all w (c ∷ cs) =
    let one : length (kept_values w c) ≤ most_kept = rw (counted w c) (few_kept w c) in
    elim (does w c) as (λ r. length (kept_values w c) + option_map_or (λ t. count_kept does kept_values t cs) (result_ok r) 0 ≤ most_kept * suc (length cs)) [
      | Ok t ↦ let rest = few_in_all t cs in omega arith
      | Err f ↦ omega arith
    ]

-- there is room for what a step writes where there is room for the most
pub few_in_step : (d : Decoded) (w : WorldState) (a : Arguments) (p : Plan) → a.f < 64 → step_or_fault d w a ≡ Ok p → length (writes_of w p) ≤ most_kept
few_in_step d w a p h e =
    let op = operation_or_nop d in
    let same = passed (applies d w a) (step_plan op w a) p e in
    subst (λ q. length (writes_of w q) ≤ most_kept) same.1 (rw (number-step op w a) (few-beside op w a h))
