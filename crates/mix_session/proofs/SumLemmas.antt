-- The columns of `show counts` add up: each step that is done is counted at one cell, and what the steps took is how far the clock has gone.
use Rattle.std.proofs.Common.{◌≡◌, ◌≢◌, ℕ, zero, suc, ◌+◌, ◌-◌, ◌&&◌, ◌<◌, ◌≤◌, eqb, Bool, true, false, cond, List, [], ◌∷◌, ◌++◌, length, take, get_or, Some, IsSome, Result, Ok, Err, refl, ap, sym, subst, ◌∙◌, arith, add-one}
use Rattle.std.proofs.lemmas.List.{take-append-le, get_or_append_left}
use Rattle.std.proofs.lemmas.Bool.Decides.{nat_tests}
use Rattle.std.proofs.Math.Seq.{take-length}
use Rattle.std.proofs.lemmas.List.Filters.{length-filter_more}
use Rattle.std.specs.List.{filter}
use Rattle.std.specs.Option.{option_and_then}
use Rattle.std.specs.Result.{result_ok}
use Rattle.undo_core.specs.Replay.{replay}
use Rattle.mix_machine.specs.Prelude.{WorldState, IsWorld, does, IsReal, loaded, UnitsState}
use Rattle.mix_machine.specs.declared.fault.MixFault.{MixFault}
use Rattle.mix_machine.specs.declared.old.Change.{Change}
use Rattle.mix_machine.specs.declared.old.Change.TheVariants.{Step, SetReg, SetCell, SetLoc, SetOver, SetCmp, Break, Clear}
use Rattle.mix_word.specs.Word.{WordValue}
use Rattle.mix_session.specs.Prelude.{world_at, change_at, Timeline, world_of}
use Rattle.mix_session.specs.Counts.{is_step, sum_below, number_if, time_of, is_step_after, tally_at, tally_of_all}
use Rattle.mix_session.specs.Sums.{sum_of_cells, steps_done, AreReal}
use Rattle.mix_session.proofs.ChangeLemmas.{world_at-now}

-- what `change_law` of the machine says
abbrev pub ForwardLaw : Type 0
ForwardLaw = (v w : WorldState) (c : Change) → does v c ≡ Ok w → v.clock ≤ w.clock

abbrev pub KeptLaw : Type 0
KeptLaw = (v w : WorldState) (c : Change) → c ≢ Step → does v c ≡ Ok w → w.clock ≡ v.clock

abbrev pub PlaceLaw : Type 0
PlaceLaw = (v w : WorldState) → IsWorld v → does v Step ≡ Ok w → v.loc < 4000

abbrev pub WorldAfterLaw : Type 0
WorldAfterLaw = (v w : WorldState) (c : Change) → IsWorld v → IsReal c → does v c ≡ Ok w → IsWorld w

-- sums of nothing, and of sums
sum-zero : (m : ℕ) → sum_below m (λ p. 0) ≡ 0
sum-zero zero = refl
sum-zero (suc m) = omega (arith, sum-zero m)

sum-plus : (m : ℕ) (f g : ℕ → ℕ) → sum_below m (λ p. f p + g p) ≡ sum_below m f + sum_below m g
sum-plus zero f g = refl
sum-plus (suc m) f g = omega (arith, sum-plus m f g)

-- a number that stands at one place alone
past : (m l x : ℕ) → m ≤ l → sum_below m (λ p. number_if (eqb l p) x) ≡ 0
past zero l x h = refl
past (suc m) l x h =
    let other : eqb l m ≡ false = grind (arith, nat_tests) in
    let none : number_if (eqb l m) x ≡ 0 = rw other refl in
    omega (arith, none, past m l x (omega (arith, h)))

at-one : (m l x : ℕ) → l < m → sum_below m (λ p. number_if (eqb l p) x) ≡ x
at-one zero l x h = absurd (omega (arith, h))
at-one (suc m) l x h =
    elim (eqb l m) as (λ b. eqb l m ≡ b → sum_below (suc m) (λ p. number_if (eqb l p) x) ≡ x) [
      | true ↦ λ e.
          let same : m ≤ l = grind (arith, nat_tests, e) in
          let one : number_if (eqb l m) x ≡ x = rw e refl in
          omega (arith, one, past m l x same)
      | false ↦ λ e.
          let below : l < m = grind (arith, nat_tests, e, h) in
          let none : number_if (eqb l m) x ≡ 0 = rw e refl in
          omega (arith, none, at-one m l x below)
    ] refl

at-place : (m l x : ℕ) (b : Bool) → (b ≡ true → l < m) → sum_below m (λ p. number_if (b && eqb l p) x) ≡ number_if b x
at-place m l x true h = at-one m l x (h refl)
at-place m l x false h = sum-zero m

-- numbers that each stand at one place, added by places or one after the other
by-places : (m n : ℕ) (which : ℕ → Bool) (place number : ℕ → ℕ) → ((i : ℕ) → i < n → which i ≡ true → place i < m) →
    sum_below m (λ p. sum_below n (λ i. number_if (which i && eqb (place i) p) (number i))) ≡ sum_below n (λ i. number_if (which i) (number i))
by-places m zero which place number h = sum-zero m
by-places m (suc n) which place number h =
    let rest = by-places m n which place number (λ i l s. h i (omega (arith, l)) s) in
    let last = at-place m (place n) (number n) (which n) (λ s. h n (omega arith) s) in
    sum-plus m (λ p. sum_below n (λ i. number_if (which i && eqb (place i) p) (number i))) (λ p. number_if (which n && eqb (place n) p) (number n))
    ∙ ap (λ (k : ℕ). k + sum_below m (λ p. number_if (which n && eqb (place n) p) (number n))) rest
    ∙ ap (λ (k : ℕ). sum_below n (λ i. number_if (which i) (number i)) + k) last

-- the change after the first n of some that can be done leads from one state to the next
pub record Next (first : WorldState) (changes : List Change) (n : ℕ) : Type 0 where
  pub before : WorldState
  pub after : WorldState
  pub from : replay does first (take n changes) ≡ Some before
  pub to : replay does first (take (suc n) changes) ≡ Some after
  pub done : does before (get_or changes n Step) ≡ Ok after

given : (s : WorldState) (cs : List Change) (r : Result WorldState MixFault) → IsSome (option_and_then {T = WorldState} {U = WorldState} (λ u. replay does u cs) (result_ok r)) →
    (u : WorldState) × ((r ≡ Ok u) × IsSome (replay does u cs))
given s cs (Ok u) h = (u, (refl, h))
given s cs (Err f) h = absurd (cc)

after-first : (first u : WorldState) (c : Change) (cs : List Change) → does first c ≡ Ok u → replay does first (c ∷ cs) ≡ replay does u cs
after-first first u c cs e = rw e refl

next-of : (first : WorldState) (changes : List Change) (n : ℕ) → n < length changes → IsSome (replay does first changes) → Next first changes n
next-of first [] n l h = absurd (omega (arith, l))
next-of first (c ∷ cs) zero l h =
    let one = given first cs (does first c) h in
    let done : does first c ≡ Ok one.0 = one.1.0 in
    record { before = first; after = one.0; from = refl; to = after-first first one.0 c [] done; done = done }
next-of first (c ∷ cs) (suc n) l h =
    let one = given first cs (does first c) h in
    let done : does first c ≡ Ok one.0 = one.1.0 in
    let more = next-of one.0 cs n (omega (arith, l)) one.1.1 in
    record {
      before = more.before;
      after = more.after;
      from = after-first first one.0 c (take n cs) done ∙ more.from;
      to = after-first first one.0 c (take (suc n) cs) done ∙ more.to;
      done = more.done;
    }

world_at-is : (t : Timeline) (n : ℕ) (w : WorldState) → n ≤ length t.changes → replay does t.first (take n t.changes) ≡ Some w → world_at t n ≡ w
unfolding world_at
world_at-is t n w within e = rw (take-append-le n t.changes t.ahead within, e) refl

world_at-first : (t : Timeline) → world_at t 0 ≡ t.first
unfolding world_at
world_at-first t = refl

change_at-done : (t : Timeline) (n : ℕ) → n < length t.changes → change_at t (suc n) ≡ get_or t.changes n Step
change_at-done t n below =
    let one : suc n - 1 ≡ n = omega arith in
    ap (λ (i : ℕ). get_or (t.changes ++ t.ahead) i Step) one ∙ get_or_append_left t.changes t.ahead Step n below

-- a change that is done leads from the state before it to the state after it
leads : (t : Timeline) (n : ℕ) → n < length t.changes → IsSome (replay does t.first t.changes) →
    does (world_at t n) (change_at t (suc n)) ≡ Ok (world_at t (suc n))
leads t n below stands =
    let next = next-of t.first t.changes n below stands in
    let from = world_at-is t n next.before (omega (arith, below)) next.from in
    let to = world_at-is t (suc n) next.after (omega (arith, below)) next.to in
    rw (change_at-done t n below, from, to) next.done

-- and each state is one of the machine
worlds : WorldAfterLaw → (t : Timeline) (n : ℕ) → n ≤ length t.changes → IsWorld t.first → AreReal t → IsSome (replay does t.first t.changes) →
    IsWorld (world_at t n)
worlds law t zero within first real stands = rw (world_at-first t) first
worlds law t (suc n) within first real stands =
    law (world_at t n) (world_at t (suc n)) (change_at t (suc n)) (worlds law t n (omega (arith, within)) first real stands) (real (suc n))
    (leads t n (omega (arith, within)) stands)

step-is : (c : Change) → is_step c ≡ true → c ≡ Step
step-is Step e = refl
step-is (SetReg r v) e = absurd (cc)
step-is (SetCell p v) e = absurd (cc)
step-is (SetLoc p) e = absurd (cc)
step-is (SetOver b) e = absurd (cc)
step-is (SetCmp c) e = absurd (cc)
step-is (Break p) e = absurd (cc)
step-is (Clear p) e = absurd (cc)

not-step : (c : Change) → is_step c ≡ false → c ≢ Step
not-step c e = λ q. let yes : is_step c ≡ true = rw q refl in absurd (cc)

-- each step that is done was done at a cell
at-cells : PlaceLaw → WorldAfterLaw → (t : Timeline) → IsWorld t.first → AreReal t → IsSome (replay does t.first t.changes) →
    (n : ℕ) → n < length t.changes → is_step_after t n ≡ true → (world_at t n).loc < 4000
at-cells place law t first real stands n below step =
    let is = step-is (change_at t (suc n)) step in
    place (world_at t n) (world_at t (suc n)) (worlds law t n (omega (arith, below)) first real stands)
    (subst (λ (c : Change). does (world_at t n) c ≡ Ok (world_at t (suc n))) is (leads t n below stands))

-- the cells together have been counted as often as all
pub counts-of_cells : PlaceLaw → WorldAfterLaw → (t : Timeline) → IsWorld t.first → AreReal t → IsSome (replay does t.first t.changes) →
    sum_of_cells (λ p. (tally_at t p).count) ≡ (tally_of_all t).count
unfolding sum_of_cells
counts-of_cells place law t first real stands =
    by-places 4000 (length t.changes) (is_step_after t) (λ n. (world_at t n).loc) (λ n. 1) (at-cells place law t first real stands)

-- and took as long
pub times-of_cells : PlaceLaw → WorldAfterLaw → (t : Timeline) → IsWorld t.first → AreReal t → IsSome (replay does t.first t.changes) →
    sum_of_cells (λ p. (tally_at t p).time) ≡ (tally_of_all t).time
unfolding sum_of_cells
times-of_cells place law t first real stands =
    by-places 4000 (length t.changes) (is_step_after t) (λ n. (world_at t n).loc) (time_of t) (at-cells place law t first real stands)

-- the clock after a change, by how long it took if it is a step
clock-next : ForwardLaw → KeptLaw → (t : Timeline) (n : ℕ) (b : Bool) → n < length t.changes → IsSome (replay does t.first t.changes) → is_step_after t n ≡ b →
    (world_at t n).clock + number_if b (time_of t n) ≡ (world_at t (suc n)).clock
clock-next forward kept t n true below stands step =
    omega (arith, forward (world_at t n) (world_at t (suc n)) (change_at t (suc n)) (leads t n below stands))
clock-next forward kept t n false below stands step =
    omega (arith, kept (world_at t n) (world_at t (suc n)) (change_at t (suc n)) (not-step (change_at t (suc n)) step) (leads t n below stands))

clock-after : ForwardLaw → KeptLaw → (t : Timeline) (n : ℕ) → n ≤ length t.changes → IsSome (replay does t.first t.changes) →
    t.first.clock + sum_below n (λ i. number_if (is_step_after t i) (time_of t i)) ≡ (world_at t n).clock
clock-after forward kept t zero within stands = rw (world_at-first t) (omega arith)
clock-after forward kept t (suc n) within stands =
    omega (arith, clock-after forward kept t n (omega (arith, within)) stands, clock-next forward kept t n (is_step_after t n) (omega (arith, within)) stands refl)

-- what the steps took is how far the clock has gone
pub times-of_clock : ForwardLaw → KeptLaw → (t : Timeline) → IsSome (replay does t.first t.changes) →
    t.first.clock + (tally_of_all t).time ≡ (world_of t).clock
times-of_clock forward kept t stands =
    clock-after forward kept t (length t.changes) (omega arith) stands ∙ ap (λ (w : WorldState). w.clock) (world_at-now t)

loaded-clock : (words : List (ℕ × WordValue)) (start : ℕ) (units : UnitsState) → (loaded words start units).clock ≡ 0
unfolding loaded
loaded-clock words start units = refl

-- of a machine that was loaded it is the clock
pub times-of_loaded : ForwardLaw → KeptLaw → (t : Timeline) (words : List (ℕ × WordValue)) (start : ℕ) (units : UnitsState) → t.first ≡ loaded words start units →
    IsSome (replay does t.first t.changes) → (tally_of_all t).time ≡ (world_of t).clock
times-of_loaded forward kept t words start units e stands =
    let none : t.first.clock ≡ 0 = ap (λ (w : WorldState). w.clock) e ∙ loaded-clock words start units in
    omega (arith, none, times-of_clock forward kept t stands)

number_if-cond : (b : Bool) → number_if b 1 ≡ cond b 1 0
number_if-cond true = refl
number_if-cond false = refl

-- the steps are counted one after the other
ones-taken : (t : Timeline) (n : ℕ) → n ≤ length t.changes →
    sum_below n (λ i. number_if (is_step_after t i) 1) ≡ length (filter is_step (take n t.changes))
ones-taken t zero within = refl
ones-taken t (suc n) within =
    let below : n < length t.changes = omega (arith, within) in
    let same : is_step_after t n ≡ is_step (get_or t.changes n Step) = ap is_step (change_at-done t n below) in
    let one : number_if (is_step_after t n) 1 ≡ cond (is_step (get_or t.changes n Step)) 1 0 = rw same (number_if-cond (is_step (get_or t.changes n Step))) in
    let more : length (filter is_step (take (suc n) t.changes)) ≡ length (filter is_step (take n t.changes)) + cond (is_step (get_or t.changes n Step)) 1 0 =
    ap (λ (k : ℕ). length (filter is_step (take k t.changes))) (sym (add-one n)) ∙ length-filter_more is_step t.changes n Step below in
    omega (arith, ones-taken t n (omega (arith, within)), one, more)

-- the count of all is how many of the changes done are steps
pub count-of_all : (t : Timeline) → (tally_of_all t).count ≡ steps_done t
count-of_all t = ones-taken t (length t.changes) (omega arith) ∙ ap (λ (cs : List Change). length (filter is_step cs)) (take-length t.changes)
