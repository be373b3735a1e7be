-- Facts of the definitions of commands, over plain variables.
use Rattle.std.proofs.Common.{◌≡◌, ℕ, zero, suc, ◌+◌, ◌<◌, ◌≤◌, length, ltb, List, [], ◌∷◌, Bool, true, false, Option, None, Some, Result, Ok, Err, inl, inr, refl, ap, subst, ◌∙◌, arith, add-one, eqb, below_more, is_some, position, if◌then◌else◌}
use Rattle.std.specs.Option.{option_map, option_or}
use Rattle.std.specs.Result.{IfErr, IsOk}
use Rattle.std.proofs.lemmas.Bool.Decides.{nat_tests}
use Rattle.mix_machine.specs.Prelude.{WorldState, does}
use Rattle.mix_machine.specs.declared.old.Change.{Change}
use Rattle.mix_machine.specs.declared.old.Change.TheVariants.{Step}
use Rattle.mix_machine.specs.declared.fault.MixFault.{MixFault}
use Rattle.mix_session.specs.Prelude.{Timeline, world_of, begins_with_step, with_change, back_by, forth_by, moved_once, moved, BrokenOff, IsBefore, StopsState, has_conflict, Condition, Way, New, Again, Back, End}
use Rattle.mix_session.specs.Command.{effect_of_run, effect_of_change, effect_of_result, refusal_effect, change_stage, count_of_run, least_below, is_met_by, move_conflicts, is_halt_done, end_there, Effect, end_of_move, end_of_last, end_of_more, end_at, fault_end, after, Begun}
use Rattle.mix_session.specs.Stops.{is_at_stop, is_awaited}
use Rattle.mix_session.specs.declared.fault.Refusal.TheVariants.{RefusedByMachine}
use Rattle.mix_session.specs.declared.answer.Answer.TheVariants.{Ran, Done}
use Rattle.mix_session.specs.declared.reply.End.TheVariants.{Halt, Until, Break, Arrived, Limit, Start}
use Rattle.mix_session.proofs.TimelineLemmas.{back_by-none, back_by-next, back_by-all}

-- the least number below n that passes is the one that passes with none below it; n, where none does
pub least_below-is : (n k : ℕ) (p : ℕ → Bool) → k ≤ n → (k < n → p k ≡ true) → ((j : ℕ) → j < k → p j ≡ false) → least_below n p ≡ k
least_below-is zero k p within here below = omega arith
least_below-is (suc n) zero p within here below = rw (here (omega arith)) refl
least_below-is (suc n) (suc k) p within here below =
    rw (below 0 (omega arith)) (ap suc (least_below-is n k (λ j. p (suc j)) (omega arith) (λ h. here (omega arith)) (λ j h. below (suc j) (omega arith))))

-- none below k passes, so the least number that does is not below k
pub least_below-beyond : (n k : ℕ) (p : ℕ → Bool) → k ≤ n → ((j : ℕ) → j < k → p j ≡ false) → k ≤ least_below n p
least_below-beyond zero k p within below = omega arith
least_below-beyond (suc n) zero p within below = omega arith
least_below-beyond (suc n) (suc k) p within below =
    let more : k ≤ least_below n (λ j. p (suc j)) = least_below-beyond n k (λ j. p (suc j)) (omega arith) (λ j h. below (suc j) (omega arith)) in
    rw (below 0 (omega arith)) (omega arith)

-- one change more is made
pub moved-next : (way : Way) (t now next : Timeline) (k : ℕ) → now ≡ moved way t k → next ≡ moved_once way now → next ≡ moved way t (k + 1)
moved-next way t now next k same more = rw (add-one, ← same) more

-- the first state stays
pub moved_once-first : (way : Way) (t : Timeline) → (moved_once way t).first ≡ t.first
moved_once-first New t = refl
moved_once-first Again t =
    elim (begins_with_step t.ahead) as (λ (b : Bool). (if b then forth_by t 1 else with_change t Step).first ≡ t.first) [ true ↦ refl | false ↦ refl ]
moved_once-first Back t = refl

-- so many changes taken back one at a time are taken back at once
pub moved-back : (t : Timeline) (k : ℕ) → k ≤ length t.changes → moved Back t k ≡ back_by t k
moved-back t zero within = back_by-none t
moved-back t (suc k) within =
    let before = moved-back t k (omega arith) in
    let one = back_by-next t (back_by t k) (back_by (back_by t k) 1) k 1 (omega arith) refl refl refl (back_by-all (back_by t k) 1) in
    ap (λ s. back_by s 1) before ∙ rw add-one at one

-- how one change more ends a run
pub end_of_last-next : (way : Way) (stops : StopsState) (t : Timeline) (k : ℕ) (old now : WorldState) → world_of (moved way t k) ≡ old →
    world_of (moved way t (k + 1)) ≡ now → end_of_last way stops t (k + 1) ≡ end_of_move (move_conflicts way (moved way t k) (moved way t (k + 1))) way stops old now
end_of_last-next way stops t k old now e f = let next : world_of (moved way t (suc k)) ≡ now = rw add-one at f in rw (add-one, e, next) refl

pub end_at-last : (way : Way) (stops : StopsState) (t : Timeline) (n k : ℕ) (end : End) → end_of_last way stops t k ≡ Some end → end_at way stops t n k ≡ Some end
unfolding end_at
end_at-last way stops t n k end e = rw e refl

pub end_at-limit : (way : Way) (stops : StopsState) (t : Timeline) (n : ℕ) → end_of_last way stops t n ≡ None → end_at way stops t n n ≡ Some Limit
unfolding end_at
end_at-limit way stops t n e = let same : eqb n n ≡ true = grind (arith, nat_tests) in rw (e, same) refl

pub end_at-more : (way : Way) (stops : StopsState) (t now : Timeline) (n k : ℕ) → end_of_last way stops t k ≡ None → k < n → now ≡ moved way t k →
    end_at way stops t n k ≡ end_of_more way now
unfolding end_at
end_at-more way stops t now n k e below here = let other : eqb k n ≡ false = grind (arith, nat_tests) in rw (e, other, ← here) refl

-- one change more is made, so no end held before it
pub none_before-next : (way : Way) (stops : StopsState) (t now : Timeline) (n k : ℕ) → end_of_last way stops t k ≡ None → k < n → now ≡ moved way t k →
    end_of_more way now ≡ None → ((j : ℕ) → j < k → end_at way stops t n j ≡ None) → (j : ℕ) → j < k + 1 → end_at way stops t n j ≡ None
none_before-next way stops t now n k e below here more before =
    below_more (λ j. end_at way stops t n j ≡ None) k before (end_at-more way stops t now n k e below here ∙ more)

-- so many changes are made and this end holds, with none before it: that is the run
pub count_of_run-is : (way : Way) (stops : StopsState) (t : Timeline) (n k : ℕ) (end : End) → k ≤ n → end_at way stops t n k ≡ Some end →
    ((j : ℕ) → j < k → end_at way stops t n j ≡ None) → count_of_run way stops t n ≡ k
unfolding count_of_run
count_of_run-is way stops t n k end within holds before =
    least_below-is n k (λ j. is_some (end_at way stops t n j)) within (λ _. ap is_some holds) (λ j below. ap is_some (before j below))

pub effect_of_run-is : (way : Way) (stops : StopsState) (t : Timeline) (n k : ℕ) (end : End) → k ≤ n → end_at way stops t n k ≡ Some end →
    ((j : ℕ) → j < k → end_at way stops t n j ≡ None) → effect_of_run way stops t n ≡ record { stage = moved way t; last = k; answer = Ran k end }
unfolding effect_of_run
effect_of_run-is way stops t n k end within holds before = rw (count_of_run-is way stops t n k end within holds before, holds) refl

-- k of the changes, with no end before them
pub Begun-run : (way : Way) (stops : StopsState) (t now : Timeline) (n k : ℕ) → now ≡ moved way t k → k ≤ n → ((j : ℕ) → j < k → end_at way stops t n j ≡ None) →
    Begun (effect_of_run way stops t n) now
unfolding effect_of_run count_of_run
Begun-run way stops t now n k e within before =
    (k, least_below-beyond n k (λ j. is_some (end_at way stops t n j)) within (λ j below. ap is_some (before j below)), e)

-- k of the changes, with no end after them either
pub before-run : (way : Way) (stops : StopsState) (t now : Timeline) (n k : ℕ) → now ≡ moved way t k → k < n → end_of_last way stops t k ≡ None →
    end_of_more way now ≡ None → ((j : ℕ) → j < k → end_at way stops t n j ≡ None) → IsBefore (effect_of_run way stops t n) now
unfolding effect_of_run count_of_run
before-run way stops t now n k e below last more before =
    let none = none_before-next way stops t now n k last below e more before in
    let least : k + 1 ≤ least_below n (λ j. is_some (end_at way stops t n j)) =
    least_below-beyond n (k + 1) (λ j. is_some (end_at way stops t n j)) (omega (arith, below)) (λ j h. ap is_some (none j h)) in
    (k, omega (arith, least), e)

-- a step that is no fault
pub fault_end-ok : (r : Result WorldState MixFault) → IsOk r → fault_end r ≡ None
fault_end-ok (Ok world) ok = refl
fault_end-ok (Err fault) ok = absurd (cc)

-- a fact that holds, holds of a refusal
pub if_err : {A E : Type 0} (r : Result A E) (P : Type 0) → P → IfErr r (λ _. P)
if_err (Ok x) P holds = tt
if_err (Err e) P holds = holds

-- where none is made, the run is begun
pub Begun-none : (way : Way) (stops : StopsState) (t : Timeline) (n : ℕ) → Begun (effect_of_run way stops t n) t
Begun-none way stops t n = Begun-run way stops t t n 0 refl (omega arith) (λ j below. absurd (omega (arith, below)))

-- the effect of a run, by the timeline after it, the number of its changes and its end
pub run-effect : (way : Way) (stops : StopsState) (t began now : Timeline) (n k : ℕ) (end : End) → began ≡ t → now ≡ moved way began k → k ≤ n →
    end_at way stops began n k ≡ Some end → ((j : ℕ) → j < k → end_at way stops began n j ≡ None) →
    (now ≡ after (effect_of_run way stops t n)) × ((effect_of_run way stops t n).answer ≡ Ran k end)
run-effect way stops t began now n k end same led within holds before =
    rw (← same, effect_of_run-is way stops began n k end within holds before) (led, refl)

-- nothing but the number of changes ends a run by Limit
abbrev NotLimit : Option End → Type 0
NotLimit None = Unit {0}
NotLimit (Some Limit) = ⊥
NotLimit (Some end) = Unit {0}

not_limit-or : (o p : Option End) → NotLimit o → NotLimit p → NotLimit (option_or o p)
not_limit-or None p first second = second
not_limit-or (Some end) p first second = first

not_limit-if : (b : Bool) (o p : Option End) → NotLimit o → NotLimit p → NotLimit (if b then o else p)
not_limit-if true o p first second = first
not_limit-if false o p first second = second

not_limit-until : (o : Option ℕ) → NotLimit (option_map Until o)
not_limit-until None = tt
not_limit-until (Some index) = tt

not_limit-there : (stops : StopsState) (w : WorldState) → NotLimit (end_there stops w)
not_limit-there stops w =
    not_limit-if (is_at_stop stops w) (Some Break) (if is_awaited stops.location w then Some Arrived else None) tt
    (not_limit-if (is_awaited stops.location w) (Some Arrived) None tt tt)

not_limit-move : (conflicts : Bool) (way : Way) (stops : StopsState) (old now : WorldState) → NotLimit (end_of_move conflicts way stops old now)
not_limit-move conflicts way stops old now =
    let met = option_map Until (position (is_met_by conflicts way old now) stops.watched) in
    not_limit-if (is_halt_done way old) (Some Halt) (option_or met (end_there stops now)) tt
    (not_limit-or met (end_there stops now) (not_limit-until (position (is_met_by conflicts way old now) stops.watched)) (not_limit-there stops now))

not_limit-last : (way : Way) (stops : StopsState) (t : Timeline) (k : ℕ) → NotLimit (end_of_last way stops t k)
not_limit-last way stops t zero = tt
not_limit-last way stops t (suc k) =
    not_limit-move (move_conflicts way (moved way t k) (moved way t (suc k))) way stops (world_of (moved way t k)) (world_of (moved way t (suc k)))

not_limit-fault : (r : Result WorldState MixFault) → NotLimit (fault_end r)
not_limit-fault (Ok world) = tt
not_limit-fault (Err fault) = tt

not_limit-more : (way : Way) (t : Timeline) → NotLimit (end_of_more way t)
not_limit-more New t = not_limit-fault (does (world_of t) Step)
not_limit-more Again t = not_limit-fault (does (world_of t) Step)
not_limit-more Back t = not_limit-if (eqb (length t.changes) 0) (Some Start) None tt tt

limit_at : (b : Bool) (k n : ℕ) (last more : Option End) → eqb k n ≡ b → NotLimit last → NotLimit more →
    option_or last (if b then Some Limit else more) ≡ Some Limit → k ≡ n
limit_at true k n last more same no_last no_more holds = grind (arith, nat_tests)
limit_at false k n last more other no_last no_more holds = absurd (subst NotLimit holds (not_limit-or last more no_last no_more))

-- a run that ends by its number of changes has made so many
pub limit-is : (way : Way) (stops : StopsState) (t : Timeline) (n k : ℕ) → end_at way stops t n k ≡ Some Limit → k ≡ n
unfolding end_at
limit-is way stops t n k holds =
    limit_at (eqb k n) k n (end_of_last way stops t k) (end_of_more way (moved way t k)) refl (not_limit-last way stops t k) (not_limit-more way (moved way t k)) holds

-- a change that is not done
pub Begun-unchanged : (t : Timeline) (change : Change) → Begun (effect_of_change t change) t
unfolding effect_of_change
Begun-unchanged t change =
    elim (does (world_of t) change) as (λ r. Begun (effect_of_result t change r) t) [ Ok world ↦ (0, omega arith, refl) | Err fault ↦ (0, omega arith, refl) ]

-- a change that the machine makes
pub effect_of_change-done : (t : Timeline) (next : WorldState) (change : Change) → does (world_of t) change ≡ Ok next →
    effect_of_change t change ≡ record { stage = change_stage t change; last = 1; answer = Done }
unfolding effect_of_change
effect_of_change-done t next change given = rw given refl

-- a change that the machine refuses
pub effect_of_change-refused : (t : Timeline) (change : Change) (fault : MixFault) → does (world_of t) change ≡ Err fault →
    effect_of_change t change ≡ refusal_effect t (RefusedByMachine fault)
unfolding effect_of_change
effect_of_change-refused t change fault given = rw given refl

-- what stands before the last stage is begun
pub begun-before : (effect : Effect) (t : Timeline) → IsBefore effect t → Begun effect t
begun-before effect t is = (is.0, omega (arith, is.1), is.2)

pub begun-broken : {A E : Type 0} (r : Result A E) (b : Bool) (way : Way) (stops : StopsState) (t new : Timeline) (n : ℕ) →
    IfErr r (λ _. BrokenOff b (effect_of_run way stops t n) t new) → IfErr r (λ _. Begun (effect_of_run way stops t n) new)
begun-broken (Ok x) b way stops t new n is = tt
begun-broken (Err e) false way stops t new n is = begun-before (effect_of_run way stops t n) new is
begun-broken (Err e) true way stops t new n (inl same) = rw same (Begun-none way stops t n)
begun-broken (Err e) true way stops t new n (inr is) = begun-before (effect_of_run way stops t n) new is

-- a run that watches a conflict watches something
pub watched-some : (cs ds : List Condition) → cs ≡ ds → 0 < length cs → ltb 0 (length ds) ≡ true
watched-some cs ds same some = rw (← same) (grind (arith, nat_tests))

pub conflict-some : (cs ds : List Condition) → cs ≡ ds → has_conflict cs ≡ true → ltb 0 (length ds) ≡ true
conflict-some [] ds same some = absurd (cc)
conflict-some (c ∷ cs) ds same some = watched-some (c ∷ cs) ds same (omega arith)

-- what is broken off before its last stage, whether memory was asked for first or not
pub broken-before : {A E : Type 0} (r : Result A E) (b : Bool) (effect : Effect) (old new : Timeline) → IfErr r (λ _. IsBefore effect new) →
    IfErr r (λ _. BrokenOff b effect old new)
broken-before (Ok x) b effect old new is = tt
broken-before (Err e) false effect old new is = is
broken-before (Err e) true effect old new is = inr is

-- and before it began
pub broken-none : (b : Bool) (effect : Effect) (t : Timeline) → b ≡ true → BrokenOff b effect t t
broken-none true effect t is = inl refl
broken-none false effect t is = absurd (cc)

-- a change that can be done and is not
pub before-change : (t new : Timeline) (change : Change) → IsOk (does (world_of t) change) → new ≡ t → IsBefore (effect_of_change t change) new
unfolding effect_of_change
before-change t new change ok same =
    (elim (does (world_of t) change) as (λ r. IsOk r → IsBefore (effect_of_result t change r) new) [ Ok world ↦ λ _. (0, omega arith, same) | Err fault ↦ λ is. absurd (cc) ]) ok
