-- Of the values that are put back together only the last one is a clock, in which changes end.
use Rattle.std.proofs.Common.{Bool, ℕ, zero, suc, true, false, cond, nat_eq, ◌≡◌, ◌+◌, ◌-◌, ◌/◌, ◌%◌, ◌<◌, ◌≤◌, ◌∙◌, List, [], ◌∷◌, ◌++◌, length, drop, reverse, nat_lt, slice_get, Option, None, Some, if◌then◌else◌, refl, sym, ap, subst, arith}
use Rattle.std.specs.Option.{option_map, option_map_or, option_and_then}
use Rattle.std.proofs.lemmas.List.{reverse-append, length-reverse}
use Rattle.mix_word.specs.Prelude.{WordValue, all_registers, unit_count}
use Rattle.mix_word.specs.declared.register.Reg.{Reg}
use Rattle.undo_core.specs.Pack.{unit_list}
use Rattle.undo_core.specs.Counts.{run_of, newest_part, is_ended, AreOpen}
use Rattle.mix_machine.specs.Prelude.{cell_values, is_clock, Old, Anchor, Kind}
use Rattle.mix_machine.specs.declared.old.Old.TheVariants as old
use Rattle.mix_machine.specs.declared.pack.kind.Kind.TheVariants as kind
use Rattle.mix_machine.specs.Pack.{LastValue, said, kind_of, clock_by, says_clock, value_if, in_one, in_two, in_three, last_cell, comparison_of, register_value, breakpoint_value, unit_value, short_word, long_word, time_of, shorter_row, whole_value, jump_value, short_value, store_value, value_by}
use Rattle.mix_machine.proofs.PackLemmas.{header-value}

run-step : (t : Bool) (n k : ℕ) → n ≤ k → (if t then 0 else suc n) ≤ (if t then 0 else suc k)
run-step true n k h = omega arith
run-step false n k h = omega (arith, h)

-- with more values before them the run is no shorter
run-front : (m : ℕ) (xs ys : List Old) → run_of is_clock m xs ≤ run_of is_clock m (xs ++ ys)
run-front zero xs ys = omega arith
run-front (suc m) [] ys = omega arith
run-front (suc m) (x ∷ xs) ys = run-step (is_clock x) (run_of is_clock m xs) (run_of is_clock m (xs ++ ys)) (run-front m xs ys)

-- nor where more may be taken
run-longer : (m n : ℕ) (xs : List Old) → m ≤ n → run_of is_clock m xs ≤ run_of is_clock n xs
run-longer zero n xs h = omega arith
run-longer (suc m) zero xs h = absurd (omega (arith, h))
run-longer (suc m) (suc n) [] h = omega arith
run-longer (suc m) (suc n) (x ∷ xs) h = run-step (is_clock x) (run_of is_clock m xs) (run_of is_clock n xs) (run-longer m n xs (omega (arith, h)))

pub part-longer : (count most : ℕ) (all values : List Old) → all ≡ values → count ≤ newest_part is_clock count (reverse values) → count ≤ most →
    count ≤ newest_part is_clock most (reverse all)
part-longer count most all values is part h =
    let more = run-longer (count - 1) (most - 1) (drop 1 (reverse values)) (omega (arith, h)) in
    subst (λ (vs : List Old). count ≤ newest_part is_clock most (reverse vs)) (sym is) (omega (arith, part, more))

run-empty : (m : ℕ) → run_of is_clock m [] ≡ 0
run-empty zero = refl
run-empty (suc m) = refl

part-front : (count : ℕ) (xs ys : List Old) → count ≤ newest_part is_clock count xs → count ≤ newest_part is_clock count (xs ++ ys)
part-front count [] ys h =
    let none = run-empty (count - 1) in
    let few : count ≤ 1 = omega (arith, h, none) in
    omega (arith, few)
part-front count (x ∷ xs) ys h =
    let more = run-front (count - 1) xs ys in
    omega (arith, h, more)

-- the last values of a list
pub part-last : (count : ℕ) (all left values : List Old) → all ≡ left ++ values → count ≤ newest_part is_clock count (reverse values) →
    count ≤ newest_part is_clock count (reverse all)
part-last count all left values is h =
    subst (λ (us : List Old). count ≤ newest_part is_clock count us) (sym (ap reverse is ∙ reverse-append left values)) (part-front count (reverse values) (reverse left) h)

open-join : (xs ys : List Old) → AreOpen is_clock xs → AreOpen is_clock ys → AreOpen is_clock (xs ++ ys)
open-join [] ys h g = g
open-join (x ∷ xs) ys h g = (h.0, open-join xs ys h.1 g)

-- cells, the last one first
open-cells : (place : ℕ) (ws : List WordValue) → AreOpen is_clock (reverse (cell_values place ws))
open-cells place [] = tt
open-cells place (w ∷ ws) =
    subst (AreOpen is_clock) (sym (reverse-append (old.Cell place w ∷ []) (cell_values (place + 1) ws)))
    (open-join (reverse (cell_values (place + 1) ws)) (old.Cell place w ∷ []) (open-cells (place + 1) ws) (refl, tt))

run-open : (m : ℕ) (xs : List Old) → AreOpen is_clock xs → m ≤ length xs → m ≤ run_of is_clock m xs
run-open zero xs h few = omega arith
run-open (suc m) [] h few = absurd (omega (arith, few))
run-open (suc m) (x ∷ xs) h few =
    let next = run-open m xs h.1 (omega (arith, few)) in
    rw h.0 (omega (arith, next))

part-opened : (count : ℕ) (xs : List Old) → AreOpen is_clock xs → count ≤ length xs → count ≤ newest_part is_clock count xs
part-opened count [] h few = omega (arith, few)
part-opened count (x ∷ xs) h few =
    let run = run-open (count - 1) xs h.1 (omega (arith, few)) in
    omega (arith, run)

pub part-cells : (count place : ℕ) (ws : List WordValue) → length (cell_values place ws) ≡ count → count ≤ newest_part is_clock count (reverse (cell_values place ws))
part-cells count place ws many =
    part-opened count (reverse (cell_values place ws)) (open-cells place ws) (omega (arith, many, length-reverse (cell_values place ws)))

pub at-most : (n : ℕ) → n ≤ n
at-most n = omega arith

-- one value
pub part-one : (v : Old) → 1 ≤ newest_part is_clock 1 (reverse (v ∷ []))
part-one v = omega arith

-- the value that a header says is a clock where the header says so
abbrev Is : Bool → Option Old → Type 0
Is t None = Unit {0}
Is t (Some v) = is_clock v ≡ t

abbrev IsOf : Bool → Option LastValue → Type 0
IsOf t None = Unit {0}
IsOf t (Some l) = is_clock l.value ≡ t

of-one : (t : Bool) (o : Option Old) (a : Anchor) (us : List ℕ) → Is t o → IsOf t (in_one o a us)
of-one t None a us h = tt
of-one t (Some v) a us h = h

of-two : (t : Bool) (says : ℕ → Option Old) (a : Anchor) (us : List ℕ) → ((n : ℕ) → Is t (says n)) → IsOf t (in_two says a us)
of-two t says a [] h = tt
of-two t says a (one ∷ us) h = of-one t (says one) a us (h one)

of-three : (t : Bool) (says : ℕ → ℕ → Option Old) (a : Anchor) (us : List ℕ) → ((m n : ℕ) → Is t (says m n)) → IsOf t (in_three says a us)
of-three t says a [] h = tt
of-three t says a (two ∷ []) h = tt
of-three t says a (two ∷ one ∷ us) h = of-one t (says one two) a us (h one two)

of-if : (t b : Bool) (v : Old) → is_clock v ≡ t → Is t (value_if b v)
of-if t true v h = h
of-if t false v h = tt

of-register : (o : Option Reg) (w : WordValue) → Is false (option_map (λ r. old.Reg r w) o)
of-register None w = tt
of-register (Some r) w = refl

of-cond : (b : Bool) (v w : Old) → is_clock v ≡ false → is_clock w ≡ false → is_clock (cond b v w) ≡ false
of-cond true v w h g = h
of-cond false v w h g = g

of-cell : (n : ℕ) (a : Anchor) (us : List ℕ) → IsOf false (last_cell n a us)
of-cell n a [] = tt
of-cell n a (w ∷ us) = of-one false (value_if (nat_lt (n % 4096) 4000) (old.Cell (n % 4096) (long_word w))) a (unit_list (shorter_row n) ++ us) (of-if false (nat_lt (n % 4096) 4000) (old.Cell (n % 4096) (long_word w)) refl)

of-whole : (n : ℕ) (us : List ℕ) → IsOf true (whole_value n us)
of-whole n [] = tt
of-whole n (b ∷ []) = tt
of-whole n (b ∷ c ∷ []) = tt
of-whole n (b ∷ c ∷ d ∷ []) = tt
of-whole n (b ∷ c ∷ d ∷ e ∷ us) = refl

of-jump : (b : Bool) (n : ℕ) (a : Anchor) (us : List ℕ) → IsOf b (jump_value b n a us)
of-jump true n a us = refl
of-jump false n a us = refl

of-short : (b : Bool) (n : ℕ) (a : Anchor) (us : List ℕ) → IsOf b (short_value b n a us)
of-short true n a us = refl
of-short false n a us = refl

of-store : (b : Bool) (n : ℕ) (a : Anchor) (us : List ℕ) → IsOf b (store_value b n a us)
of-store true n a us = refl
of-store false n a us = refl

of-kind : (k : Kind) (n : ℕ) (a : Anchor) (us : List ℕ) → IsOf (clock_by k n) (value_by k n a us)
of-kind kind.Location n a us = refl
of-kind kind.Clock n a us = of-three true (λ low high. Some (old.Clock (time_of low high))) a us (λ low high. refl)
of-kind kind.Register n a us = of-one false (register_value (n % 16) (short_word (n / 16))) a us (of-register (slice_get all_registers (n % 16)) (short_word (n / 16)))
of-kind kind.Row n a us = of-cell n a us
of-kind kind.Moment n a us = refl
of-kind kind.LongRegister n a us = of-two false (λ w. register_value n (long_word w)) a us (λ w. of-register (slice_get all_registers n) (long_word w))
of-kind kind.Indicator n a us = of-cond (nat_lt n 2) (old.Over (nat_eq n 1)) (old.Cmp (comparison_of (n - 2))) refl refl
of-kind kind.Store n a us = of-store (nat_eq (n % 2) 0) n a us
of-kind kind.Breakpoint n a us = of-one false (breakpoint_value n) a us (of-if false (nat_lt (n % 4096) 4000) (old.Break (n % 4096) (nat_eq (n / 4096) 1)) refl)
of-kind kind.UnitPlace n a us =
    of-one false (unit_value (n / 65536) (old.At (n / 65536) (n % 65536))) a us (of-if false (nat_lt (n / 65536) unit_count) (old.At (n / 65536) (n % 65536)) refl)
of-kind kind.UnitLength n a us =
    of-one false (unit_value (n / 65536) (old.Len (n / 65536) (n % 65536))) a us (of-if false (nat_lt (n / 65536) unit_count) (old.Len (n / 65536) (n % 65536)) refl)
of-kind kind.UnitItem n a us =
    of-three false (λ w i. unit_value (n / 256) (old.Item (n / 256) (i % 65536) (n % 256) (long_word w))) a us
    (λ w i. of-if false (nat_lt (n / 256) unit_count) (old.Item (n / 256) (i % 65536) (n % 256) (long_word w)) refl)
of-kind kind.UnitTime n a us =
    of-three false (λ low high. unit_value n (old.Until n (time_of low high))) a us (λ low high. of-if false (nat_lt n unit_count) (old.Until n (time_of low high)) refl)
of-kind kind.WholeMoment n a us = of-whole n us
of-kind kind.Jump n a us = of-jump (nat_eq (n % 2) 0) n a us
of-kind kind.Short n a us = of-short (nat_eq (n / 16 % 2) 0) n a us

of-header : (o : Option Kind) (n : ℕ) (a : Anchor) (us : List ℕ) →
    IsOf (option_map_or (λ k. clock_by k n) o false) (option_and_then (λ k. value_by k n a us) o)
of-header None n a us = tt
of-header (Some k) n a us = of-kind k n a us

-- units that say something end in a clock where their header says so
pub header-ended : (units before : List ℕ) (header : ℕ) (a : Anchor) → units ≡ before ++ header ∷ [] → 0 < length (said a units) →
    says_clock header ≡ is_ended is_clock (reverse (said a units))
header-ended units before header a is some =
    let last = header-value units before header a is some in
    let clock : is_clock last.0.value ≡ says_clock header = subst (IsOf (says_clock header)) last.1 (of-header (kind_of header) (header / 16) a (reverse before)) in
    sym (ap (is_ended is_clock) (ap reverse last.2 ∙ reverse-append (said last.0.anchor (reverse last.0.before)) (last.0.value ∷ [])) ∙ clock)
