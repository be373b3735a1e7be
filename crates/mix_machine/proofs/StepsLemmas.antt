-- Steps that are done one after the other: one more, and one alone.
use Rattle.std.proofs.Common.{◌≡◌, ℕ, zero, suc, ◌+◌, ◌<◌, ◌≤◌, ◌==◌, ◌&&◌, ◌⊎◌, true, false, if◌then◌else◌, Bool, List, [], ◌++◌, Result, Ok, Err, IsOk, IsErr, refl, sym, ◌∙◌, ap, subst, arith}
use Rattle.std.proofs.lemmas.Bool.Decides.{nat_tests}
use Rattle.std.proofs.lemmas.List.{append-nil}
use Rattle.undo_core.specs.Repeat.{Repeats, goes_unless}
use Rattle.undo_core.specs.law.Repeating.{did-more}
use Rattle.mix_refused.specs.declared.refused.Refused.{Refused}
use Rattle.mix_refused.specs.declared.refused.Refused.TheVariants.{Fault, Memory}
use Rattle.mix_word.specs.Prelude.{WordValue, parts_of, decode_of}
use Rattle.mix_machine.specs.Prelude.{WorldState, IsWorld, cell_of, arguments_of, does, kept_values, plan_of, step_or_fault, IsReal, is_plain_next, is_step, Carried, Plan, MixFault, Change, Step, Old}
use Rattle.mix_machine.specs.Fault.{answer_of, fault_of}
use Rattle.mix_machine.specs.law.Steps.{Stepped, Steps, steps_on}
use Rattle.mix_machine.specs.declared.fault.MixFault.TheVariants.{NoCellAtLocation}

-- what a step of the instruction in a word writes
abbrev pub plan_in : WorldState → WordValue → Result Plan MixFault
plan_in w word = step_or_fault (decode_of (parts_of word).code (parts_of word).f) w (arguments_of w (parts_of word))

-- a step of the instruction at the location
pub carried-here : {T : Type 0} (w v : WorldState) (word : WordValue) (olds news : List Old) (answer : Result T (Refused MixFault)) → word ≡ cell_of w w.loc →
    Carried (plan_in w word) w v olds news answer → Carried (plan_of w Step) w v olds news answer
unfolding plan_of
carried-here w v word olds news answer is carried = subst (λ x. Carried (plan_in w x) w v olds news answer) is carried

-- a change that is done once more
pub one-more : (stops : WorldState → Bool) (w v x : WorldState) (first olds news : List Old) (n : ℕ) (c : Change) →
    ((kept : List Old) × (olds ≡ first ++ kept) × Repeats (λ u d. IsWorld u × IsReal d) does kept_values (goes_unless stops (λ u d. is_step d && is_plain_next u)) c n w v kept) →
    (0 < n → goes_unless stops (λ u d. is_step d && is_plain_next u) v c ≡ true) → IsWorld v × IsReal c → does v c ≡ Ok x → news ≡ olds ++ kept_values v c →
    (kept : List Old) × (news ≡ first ++ kept) × Repeats (λ u d. IsWorld u × IsReal d) does kept_values (goes_unless stops (λ u d. is_step d && is_plain_next u)) c (n + 1) w x kept
one-more stops w v x first olds news n c =
    did-more (λ u d. IsWorld u × IsReal d) does kept_values (goes_unless stops (λ u d. is_step d && is_plain_next u)) c first olds news n w v x

-- one more step, of the instruction in a word at the location
pub step-more : (stops : WorldState → Bool) (w v x : WorldState) (word : WordValue) (first olds news : List Old) (n byte : ℕ) → byte ≡ 0 → ((kept : List Old) × (olds ≡ first ++ kept) × Steps stops n w v kept) →
    (0 < n → steps_on stops v ≡ true) → IsWorld v → word ≡ cell_of v v.loc → Carried (plan_in v word) v x olds news (answer_of byte) →
    (kept : List Old) × (news ≡ first ++ kept) × Steps stops (n + 1) w x kept
unfolding does kept_values
step-more stops w v x word first olds news n byte done did going world is carried =
    let here = carried-here v x word olds news (Ok tt) is (subst (λ b. Carried (plan_in v word) v x olds news (answer_of b)) done carried) in
    one-more stops w v x first olds news n Step did going (world, tt) here.given here.kept

-- steps after which one more isn't done
pub stepped : (stops : WorldState → Bool) (most n : ℕ) (w v : WorldState) (olds news : List Old) (answer : Result (Unit {0}) (Refused MixFault)) → answer ≡ Ok tt → n ≤ most → 0 < n →
    ((n ≡ most) ⊎ (steps_on stops v ≡ false)) → ((kept : List Old) × (news ≡ olds ++ kept) × Steps stops n w v kept) → Stepped stops most w v olds news n answer
stepped stops most n w v olds news answer ok within some why did =
    subst (λ (r : Result (Unit {0}) (Refused MixFault)). Stepped stops most w v olds news n r) (sym ok)
    (record { within = within; done = did; all = (some, why); left = tt; going = tt; fault = tt; last = tt })

-- steps after which one more is refused
pub refused : (stops : WorldState → Bool) (most n : ℕ) (w v x : WorldState) (word : WordValue) (first olds news : List Old) (answer : Result (Unit {0}) (Refused MixFault)) → IsErr answer → n < most →
    ((kept : List Old) × (olds ≡ first ++ kept) × Steps stops n w v kept) → (0 < n → steps_on stops v ≡ true) → word ≡ cell_of v v.loc → Carried (plan_in v word) v x olds news answer →
    Stepped stops most w x first news n answer
unfolding does
refused stops most n w v x word first olds news (Ok _) err left did going is carried = absurd (cc (err))
refused stops most n w v x word first olds news (Err why) err left did going is carried =
    let here = carried-here v x word olds news (Err why) is carried in
    subst (λ u. Stepped {T = Unit {0}} stops most w u first news n (Err why)) (sym here.same)
    (subst (λ l. Stepped {T = Unit {0}} stops most w v first l n (Err why)) (sym here.same_kept)
    (record { within = omega (arith, left); done = did; all = tt; left = left; going = going; fault = here.fault; last = here.last }))

-- why a change is not done
pub why-not : (f : MixFault) (memory : Bool) → IsErr {T = Unit {0}} (if memory then Err Memory else Err (Fault f))
why-not f true = refl
why-not f false = refl

-- every byte but 0 tells why not
pub why-told : (n : ℕ) → (n ≡ 0 → ⊥) → IsErr (answer_of n)
why-told n some =
    let test : (n == 0) ≡ false = grind (arith, nat_tests) in
    rw test (why-not (fault_of n) (n == 255))

-- no step, where the location is no cell
pub none-there : (stops : WorldState → Bool) (most : ℕ) (w : WorldState) (olds : List Old) (answer : Result (Unit {0}) (Refused MixFault)) → answer ≡ Err (Fault NoCellAtLocation) → 0 < most → w.loc ≡ 4000 →
    Stepped stops most w w olds olds 0 answer
unfolding does plan_of
none-there stops most w olds answer err some past =
    let there : (w.loc == 4000) ≡ true = grind (arith, nat_tests) in
    subst (λ (r : Result (Unit {0}) (Refused MixFault)). Stepped stops most w w olds olds 0 r) (sym err)
    (record { within = omega arith; done = ([], sym (append-nil olds), (refl, refl)); all = tt; left = some; going = λ more. absurd (omega (arith, more)); fault = rw there refl; last = tt })

-- a step that is done once at most
pub one-done : {T : Type 0} (stops : WorldState → Bool) (w v : WorldState) (olds news : List Old) (n : ℕ) (answer : Result T (Refused MixFault)) → Stepped stops 1 w v olds news n answer →
    Carried (plan_of w Step) w v olds news answer
unfolding does kept_values
one-done stops w v olds news zero (Ok _) h = absurd (omega (arith, h.all.0))
one-done stops w v olds news (suc zero) (Ok _) h =
    let step = h.done.2.1 in
    let none = step.3.2 in
    record {
      given = step.1 ∙ ap Ok (sym none.0);
      kept = h.done.1 ∙ ap (λ l. olds ++ l) (step.3.1 ∙ ap (λ l. kept_values w Step ++ l) none.1 ∙ append-nil (kept_values w Step));
      fault = tt;
      last = tt;
      same = tt;
      same_kept = tt;
    }
one-done stops w v olds news (suc (suc n)) (Ok _) h = absurd (omega (arith, h.within))
one-done stops w v olds news zero (Err (Fault f)) h =
    let same = h.done.2.0 in
    record {
      given = tt;
      kept = tt;
      fault = subst (λ u. does u Step ≡ Err f) same h.fault;
      last = tt;
      same = same;
      same_kept = h.done.1 ∙ ap (λ l. olds ++ l) h.done.2.1 ∙ append-nil olds;
    }
one-done stops w v olds news (suc n) (Err (Fault f)) h = absurd (omega (arith, h.left))
one-done stops w v olds news zero (Err Memory) h =
    let same = h.done.2.0 in
    record {
      given = tt;
      kept = tt;
      fault = tt;
      last = subst (λ u. IsOk (does u Step)) same h.last;
      same = same;
      same_kept = h.done.1 ∙ ap (λ l. olds ++ l) h.done.2.1 ∙ append-nil olds;
    }
one-done stops w v olds news (suc n) (Err Memory) h = absurd (omega (arith, h.left))
