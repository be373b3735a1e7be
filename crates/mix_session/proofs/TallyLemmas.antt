-- What `show counts` has counted, and what is left to count, come to the whole at each change that is gone over.
use Rattle.std.proofs.Common.{◌≡◌, ℕ, zero, suc, ◌+◌, ◌-◌, ◌*◌, ◌^◌, ◌<◌, ◌≤◌, eqb, ltb, Bool, true, false, List, ◌++◌, flat_map, length, take, get_or, Some, refl, ap, sym, ◌∙◌, arith, ◌≢◌, add-one, replicate, slice_set}
use Rattle.std.proofs.lemmas.List.{get_or_default, take-append-le, get_or-set_same, get_or-set_other, get_or_append_left, get_or-replicate, length-replicate}
use Rattle.std.proofs.lemmas.Bool.Decides.{nat_tests}
use Rattle.std.proofs.Math.Seq.{take-length}
use Rattle.std.specs.List.{range_with_len}
use Rattle.undo_core.specs.Replay.{replay, TakesBack}
use Rattle.mix_machine.specs.Prelude.{WorldState, IsWorld, does, IsPart, mark_of, mark_before, put_value}
use Rattle.mix_machine.specs.declared.old.Change.{Change}
use Rattle.mix_machine.specs.declared.old.Change.TheVariants.{Step}
use Rattle.mix_machine.specs.declared.old.Old.{Old}
use Rattle.mix_machine.specs.declared.part.Part.{Part}
use Rattle.mix_machine.specs.declared.part.Part.TheVariants.{Loc, Clock}
use Rattle.mix_machine.specs.declared.part.Mark.{Mark}
use Rattle.mixal_asm.specs.Program.{ProgramValue}
use Rattle.mix_session.specs.Prelude.{world_at, texts, Timeline, world_of, Tally}
use Rattle.mix_session.specs.Counts.{is_step, sum_below, number_if, time_of, is_step_after, is_step_at, tally_of, tally_at, tally_of_all, count_line, total_line, counts_text}
use Rattle.mix_session.specs.Tally.{HasRoom, no_tally, tally_in, with_one, location_in, time_in}
use Rattle.mix_session.proofs.ConditionLemmas.{BeforeLaw, WorldLaw}
use Rattle.mix_session.proofs.ShowLemmas.{flat_map-range_next}

-- the first n of the changes done lead to the machine after n changes of all
pub record Stands (t : Timeline) (n : ℕ) : Type 0 where
  pub replayed : replay does t.first (take n t.changes) ≡ Some (world_at t n)
  pub world : IsWorld (world_at t n)

pub world_at-is : (t : Timeline) (n : ℕ) (world : WorldState) → n ≤ length t.changes → replay does t.first (take n t.changes) ≡ Some world →
    world_at t n ≡ world
unfolding world_at
world_at-is t n world within e = rw (take-append-le n t.changes t.ahead within, e) refl

pub Stands-is : (t : Timeline) (n : ℕ) (world : WorldState) → n ≤ length t.changes → replay does t.first (take n t.changes) ≡ Some world →
    IsWorld world → Stands t n
Stands-is t n world within e real =
    let here = world_at-is t n world within e in
    record { replayed = e ∙ ap (λ w. Some w) (sym here); world = rw here real }

pub Stands-now : (t : Timeline) (world : WorldState) → replay does t.first t.changes ≡ Some world → IsWorld world →
    Stands t (length t.changes) × (world_at t (length t.changes) ≡ world)
Stands-now t world e real =
    let all : replay does t.first (take (length t.changes) t.changes) ≡ Some world = rw take-length e in
    (Stands-is t (length t.changes) world (omega arith) all real, world_at-is t (length t.changes) world (omega arith) all)

-- the change after the first n, with the marks of a part before and after it
pub record Marks (t : Timeline) (part : Part) (n : ℕ) (before after : Mark) : Type 0 where
  pub below : n < length t.changes
  pub ends : Stands t (suc n)
  pub begins : Stands t n
  pub from : before ≡ mark_of (world_at t n) part
  pub to : after ≡ mark_of (world_at t (suc n)) part

-- the marks before a change are read from the values that are kept
pub Marks-is : BeforeLaw → WorldLaw → (t : Timeline) (part : Part) (m n : ℕ) (kept : List Old) (before after : Mark) → m ≡ suc n → m ≤ length t.changes →
    Stands t m → after ≡ mark_of (world_at t m) part → TakesBack does put_value t.first t.changes n kept → IsPart part → before ≡ mark_before kept part after →
    Marks t part n before after
Marks-is marks worlds t part m n kept before after next within stands to_is back real is =
    let below : n < length t.changes = omega (arith, next, within) in
    let ends : Stands t (suc n) = rw next at stands in
    let led = back (world_at t (suc n)) (rw add-one ends.replayed) in
    let here = world_at-is t n led.0 (omega (arith, below)) led.2 in
    let to : after ≡ mark_of (world_at t (suc n)) part = rw next at to_is in
    record {
      below = below;
      ends = ends;
      begins = Stands-is t n led.0 (omega (arith, below)) led.2 (worlds kept (world_at t (suc n)) led.0 ends.world led.1);
      from = is ∙ rw (to, here) (marks kept (world_at t (suc n)) led.0 part ends.world real led.1);
      to = to;
    }

-- the change after the first n, with the marks before it and the time after it
pub record Passes (t : Timeline) (n : ℕ) (place start clock : Mark) : Type 0 where
  pub below : n < length t.changes
  pub after : Stands t (suc n)
  pub before : Stands t n
  pub at : place ≡ mark_of (world_at t n) Loc
  pub from : start ≡ mark_of (world_at t n) Clock
  pub to : clock ≡ mark_of (world_at t (suc n)) Clock

-- that is read from the values that are kept
pub Passes-is : BeforeLaw → WorldLaw → (t : Timeline) (m n : ℕ) (kept : List Old) (location clock place start : Mark) → m ≡ suc n → m ≤ length t.changes →
    Stands t m → location ≡ mark_of (world_at t m) Loc → clock ≡ mark_of (world_at t m) Clock → TakesBack does put_value t.first t.changes n kept →
    IsPart Loc → IsPart Clock → place ≡ mark_before kept Loc location → start ≡ mark_before kept Clock clock → Passes t n place start clock
Passes-is marks worlds t m n kept location clock place start next within stands at_is to_is back loc_real clock_real place_is start_is =
    let there = Marks-is marks worlds t Loc m n kept place location next within stands at_is back loc_real place_is in
    let time = Marks-is marks worlds t Clock m n kept start clock next within stands to_is back clock_real start_is in
    record { below = time.below; after = time.ends; before = time.begins; at = there.from; from = time.from; to = time.to }

-- whether a change that is done is a step
pub step-after : (t : Timeline) (n : ℕ) (change : Change) (changes : List Change) (b : Bool) → n < length t.changes → changes ≡ t.changes →
    change ≡ get_or changes n change → b ≡ is_step change → is_step_after t n ≡ b
step-after t n change changes b below all e is =
    let here : suc n - 1 ≡ n = omega arith in
    let same : change ≡ get_or t.changes n change = e ∙ ap (λ cs. get_or cs n change) all in
    let first : change ≡ get_or (t.changes ++ t.ahead) n Step =
    same ∙ get_or_default t.changes n change Step below ∙ sym (get_or_append_left t.changes t.ahead Step n below) in
    rw here (sym (is ∙ ap is_step first))

-- where the change after the first n was done, and how long it took
pub record Took (t : Timeline) (n place time : ℕ) : Type 0 where
  pub below : n < length t.changes
  pub there : (world_at t n).loc ≡ place
  pub long : time_of t n ≡ time
  pub small : time < 2 ^ 64

pub Took-is : (t : Timeline) (n number began ended time : ℕ) (place start clock : Mark) → Passes t n place start clock →
    number ≡ location_in place → began ≡ time_in start → ended ≡ time_in clock → time ≡ ended - began → Took t n number time
Took-is t n number began ended time place start clock passes number_is began_is ended_is time_is =
    let last : (world_at t (suc n)).clock ≤ 10 ^ 18 = passes.after.world.clock in
    let from : began ≡ (world_at t n).clock = began_is ∙ ap time_in passes.from in
    let to : ended ≡ (world_at t (suc n)).clock = ended_is ∙ ap time_in passes.to in
    record {
      below = passes.below;
      there = sym (number_is ∙ ap location_in passes.at);
      long = rw (← from, ← to, time_is) refl;
      small = omega (arith, last, to, time_is);
    }

-- What is counted of the changes from the last one back to the n-th, with what is left, comes to the whole; and it is not too long.
pub record IsTallied (t : Timeline) (which : ℕ → Bool) (n : ℕ) (tally : Tally) : Type 0 where
  pub count : tally.count + sum_below n (λ i. number_if (which i) 1) ≡ (tally_of t which).count
  pub time : tally.time + sum_below n (λ i. number_if (which i) (time_of t i)) ≡ (tally_of t which).time
  pub within : tally.time ≤ (length t.changes - n) * 2 ^ 64

pub IsTallied-none : (t : Timeline) (which : ℕ → Bool) → IsTallied t which (length t.changes) no_tally
IsTallied-none t which = record { count = omega arith; time = omega arith; within = omega arith }

-- the change is one of those that are counted
pub IsTallied-one : (t : Timeline) (which : ℕ → Bool) (n place time : ℕ) (tally : Tally) → Took t n place time →
    which n ≡ true → IsTallied t which (suc n) tally → IsTallied t which n (with_one tally time)
IsTallied-one t which n place time tally took counts tallied =
    let one : number_if (which n) 1 ≡ 1 = rw counts refl in
    let long : number_if (which n) (time_of t n) ≡ time = rw (counts, took.long) refl in
    record {
      count = omega (arith, one, tallied.count);
      time = omega (arith, long, tallied.time);
      within = omega (arith, tallied.within, took.below, took.small);
    }

-- it is none of those
pub IsTallied-other : (t : Timeline) (which : ℕ → Bool) (n : ℕ) (tally : Tally) → n < length t.changes →
    which n ≡ false → IsTallied t which (suc n) tally → IsTallied t which n tally
IsTallied-other t which n tally below counts tallied =
    let one : number_if (which n) 1 ≡ 0 = rw counts refl in
    let long : number_if (which n) (time_of t n) ≡ 0 = rw counts refl in
    record {
      count = omega (arith, one, tallied.count);
      time = omega (arith, long, tallied.time);
      within = omega (arith, tallied.within);
    }

number_if-one : (b : Bool) → number_if b 1 ≤ 1
number_if-one true = omega arith
number_if-one false = omega arith

pub ones-below : (which : ℕ → Bool) (n : ℕ) → sum_below n (λ i. number_if (which i) 1) ≤ n
ones-below which zero = omega arith
ones-below which (suc n) = omega (arith, ones-below which n, number_if-one (which n))

pub HasRoom-one : (t : Timeline) (which : ℕ → Bool) (n : ℕ) (tally : Tally) → n < length t.changes → length t.changes < 2 ^ 64 → which n ≡ true →
    IsTallied t which (suc n) tally → HasRoom tally
HasRoom-one t which n tally below few counts tallied =
    let one : number_if (which n) 1 ≡ 1 = rw counts refl in
    record {
      count = omega (arith, one, tallied.count, ones-below which (length t.changes));
      time = omega (arith, tallied.within);
    }

-- the tallies of the cells
pub record AreTallied (t : Timeline) (n : ℕ) (cells : List Tally) : Type 0 where
  pub count : length cells ≡ 4000
  pub each : (p : ℕ) → p < 4000 → IsTallied t (is_step_at t p) n (tally_in cells p)

pub AreTallied-none : (t : Timeline) (count : ℕ) (cells : List Tally) → count ≡ 4000 → cells ≡ replicate count no_tally → AreTallied t (length t.changes) cells
AreTallied-none t count cells all e =
    record {
      count = ap length e ∙ length-replicate count no_tally ∙ all;
      each = λ p below. rw (e, get_or-replicate count p no_tally no_tally (omega (arith, below, all))) (IsTallied-none t (is_step_at t p));
    }

at-step : (t : Timeline) (p n place : ℕ) (b : Bool) → is_step_after t n ≡ true → (world_at t n).loc ≡ place → eqb place p ≡ b → is_step_at t p n ≡ b
at-step t p n place b step here e = rw (step, here, e) refl

pub HasRoom-at : (t : Timeline) (n place time : ℕ) (cells : List Tally) → Took t n place time → length t.changes < 2 ^ 64 → is_step_after t n ≡ true →
    AreTallied t (suc n) cells → place < length cells → HasRoom (tally_in cells place)
HasRoom-at t n place time cells took few step tallied real =
    HasRoom-one t (is_step_at t place) n (tally_in cells place) took.below few
    (at-step t place n place true step took.there (grind (arith, nat_tests))) (tallied.each place (omega (arith, real, tallied.count)))

-- a step at a cell
one-at : (t : Timeline) (n place time : ℕ) (cells : List Tally) → Took t n place time → is_step_after t n ≡ true → AreTallied t (suc n) cells →
    place < length cells → (p : ℕ) → p < 4000 → IsTallied t (is_step_at t p) n (tally_in (slice_set cells place (with_one (tally_in cells place) time)) p)
one-at t n place time cells took step tallied real p inside =
    elim (eqb place p) as (λ b. eqb place p ≡ b → IsTallied t (is_step_at t p) n (tally_in (slice_set cells place (with_one (tally_in cells place) time)) p)) [
      | true ↦ λ e.
          let same : place ≡ p = grind (arith, nat_tests, e) in
          let now : tally_in (slice_set cells place (with_one (tally_in cells place) time)) p ≡ with_one (tally_in cells p) time =
          rw (← same) (get_or-set_same cells place (with_one (tally_in cells place) time) no_tally real) in
          rw now (IsTallied-one t (is_step_at t p) n place time (tally_in cells p) took (at-step t p n place true step took.there e) (tallied.each p inside))
      | false ↦ λ e.
          let other : p ≢ place = grind (arith, nat_tests, e) in
          rw (get_or-set_other cells place p (with_one (tally_in cells place) time) no_tally other)
          (IsTallied-other t (is_step_at t p) n (tally_in cells p) took.below (at-step t p n place false step took.there e) (tallied.each p inside))
    ] refl

-- a step, at a cell or past the last one
pub AreTallied-one : (t : Timeline) (n place time : ℕ) (cells next : List Tally) → Took t n place time → is_step_after t n ≡ true → AreTallied t (suc n) cells →
    length next ≡ length cells → (place < length cells → next ≡ slice_set cells place (with_one (tally_in cells place) time)) →
    (length cells ≤ place → next ≡ cells) → AreTallied t n next
AreTallied-one t n place time cells next took step tallied long at past =
    record {
      count = long ∙ tallied.count;
      each = λ p inside. elim (ltb place (length cells)) as (λ b. ltb place (length cells) ≡ b → IsTallied t (is_step_at t p) n (tally_in next p)) [
        | true ↦ λ e. let real : place < length cells = grind (arith, nat_tests, e) in rw (at real) (one-at t n place time cells took step tallied real p inside)
        | false ↦ λ e.
            let beyond : length cells ≤ place = grind (arith, nat_tests, e) in
            let all : length cells ≡ 4000 = tallied.count in
            let other : eqb place p ≡ false = grind (arith, nat_tests, beyond, all, inside) in
            rw (past beyond)
            (IsTallied-other t (is_step_at t p) n (tally_in cells p) took.below (at-step t p n place false step took.there other) (tallied.each p inside))
      ] refl;
    }

-- a change that is no step
pub AreTallied-other : (t : Timeline) (n : ℕ) (cells : List Tally) → n < length t.changes → is_step_after t n ≡ false →
    AreTallied t (suc n) cells → AreTallied t n cells
AreTallied-other t n cells below step tallied =
    record {
      count = tallied.count;
      each = λ p inside. let none : is_step_at t p n ≡ false = rw step refl in
          IsTallied-other t (is_step_at t p) n (tally_in cells p) below none (tallied.each p inside);
    }

texts-suc : (f : ℕ → List ℕ) (n : ℕ) → texts f 0 (suc n) ≡ texts f 0 n ++ f n
unfolding texts
texts-suc f n =
    let next : suc n - 0 ≡ n + 1 - 0 = omega arith in
    ap (λ k. flat_map f (range_with_len 0 k)) next ∙ sym (flat_map-range_next f 0 n (omega arith))

-- texts of the first numbers that are the same for each
texts-same : (f g : ℕ → List ℕ) (n : ℕ) → ((p : ℕ) → p < n → f p ≡ g p) → texts f 0 n ≡ texts g 0 n
unfolding texts
texts-same f g zero same = refl
texts-same f g (suc n) same =
    texts-suc f n ∙ rw (texts-same f g n (λ p below. same p (omega (arith, below))), same n (omega arith)) (sym (texts-suc g n))

-- what is counted is what the reply says
pub counts_text-is : (program : ProgramValue) (t : Timeline) (w : WorldState) (cells : List Tally) (all : Tally) → w ≡ world_of t → all ≡ tally_of_all t →
    ((p : ℕ) → p < 4000 → tally_in cells p ≡ tally_at t p) →
    texts (λ p. count_line program w (tally_in cells p) p) 0 4000 ++ total_line all ≡ counts_text program t
unfolding counts_text
counts_text-is program t w cells all here sums same =
    rw (here, sums) (ap (λ text. text ++ total_line (tally_of_all t)) (texts-same (λ p. count_line program (world_of t) (tally_in cells p) p)
    (λ p. count_line program (world_of t) (tally_at t p) p) 4000 (λ p below. ap (λ tally. count_line program (world_of t) tally p) (same p below))))
