-- Steps that keep nothing: what each would keep is a list that nobody has.
use Rattle.std.proofs.Common.{◌≡◌, ℕ, zero, suc, ◌+◌, ◌<◌, ◌∙◌, Bool, true, false, List, [], ◌++◌, Result, Ok, Err, refl, sym, ap, subst, arith}
use Rattle.std.proofs.lemmas.List.{append-nil}
use Rattle.mix_refused.specs.declared.refused.Refused.{Refused}
use Rattle.mix_refused.specs.declared.refused.Refused.TheVariants.{Fault, Memory}
use Rattle.mix_word.specs.Prelude.{WordValue}
use Rattle.mix_machine.specs.Prelude.{WorldState, IsWorld, cell_of, Carried, Plan, MixFault, Old}
use Rattle.mix_machine.specs.Do.{state_after}
use Rattle.mix_machine.specs.Write.{write_all, kept_by, writes_of}
use Rattle.mix_machine.specs.Fault.{answer_of}
use Rattle.mix_machine.specs.law.Steps.{Steps, steps_on}
use Rattle.mix_machine.proofs.StepsLemmas.{plan_in, step-more}

-- a plan carried out
pub passed-on : (w v : WorldState) (plan : Plan) (given : Result Plan MixFault) (answer : Result (Unit {0}) (Refused MixFault)) → answer ≡ Ok tt → Ok plan ≡ given →
    v ≡ write_all w (writes_of w plan) → (values : List Old) × Carried given w v [] values answer
passed-on w v plan given answer ok is after =
    subst (λ (r : Result (Unit {0}) (Refused MixFault)). (values : List Old) × Carried given w v [] values r) (sym ok)
    (subst (λ (p : Result Plan MixFault). (values : List Old) × Carried {T = Unit {0}} p w v [] values (Ok tt)) is
    (kept_by w (writes_of w plan), record { given = ap Ok (sym after); kept = refl; fault = tt; last = tt; same = tt; same_kept = tt }))

-- a fault
pub not-planned : (w : WorldState) (fault : MixFault) (given : Result Plan MixFault) (answer : Result (Unit {0}) (Refused MixFault)) → answer ≡ Err (Fault fault) →
    Err fault ≡ given → (values : List Old) × Carried given w w [] values answer
not-planned w fault given answer err is =
    subst (λ (r : Result (Unit {0}) (Refused MixFault)). (values : List Old) × Carried given w w [] values r) (sym err)
    ([], record { given = tt; kept = tt; fault = ap (state_after w) (sym is); last = tt; same = refl; same_kept = refl })

-- after others
pub carried-after : {T : Type 0} (plan : Result Plan MixFault) (w v : WorldState) (olds values : List Old) (answer : Result T (Refused MixFault)) →
    Carried plan w v [] values answer → Carried plan w v olds (olds ++ values) answer
carried-after plan w v olds values (Ok _) h = record { given = h.given; kept = ap (λ l. olds ++ l) h.kept; fault = tt; last = tt; same = tt; same_kept = tt }
carried-after plan w v olds values (Err (Fault f)) h =
    record { given = tt; kept = tt; fault = h.fault; last = tt; same = h.same; same_kept = ap (λ l. olds ++ l) h.same_kept ∙ append-nil olds }
carried-after plan w v olds values (Err Memory) h =
    record { given = tt; kept = tt; fault = tt; last = h.last; same = h.same; same_kept = ap (λ l. olds ++ l) h.same_kept ∙ append-nil olds }

-- one more step
pub pass-more : (stops : WorldState → Bool) (w v x : WorldState) (word : WordValue) (n byte : ℕ) → byte ≡ 0 → ((olds : List Old) × Steps stops n w v olds) →
    (0 < n → steps_on stops v ≡ true) → IsWorld v → word ≡ cell_of v v.loc → ((values : List Old) × Carried (plan_in v word) v x [] values (answer_of byte)) →
    (olds : List Old) × Steps stops (n + 1) w x olds
pass-more stops w v x word n byte done did going world is carried =
    let more = step-more stops w v x word [] did.0 (did.0 ++ carried.0) n byte done (did.0, refl, did.1) going world is
    (carried-after (plan_in v word) v x did.0 carried.0 (answer_of byte) carried.1) in
    (more.0, more.2)

-- some were done, where the first may be
pub some-done : (n : ℕ) (may : Bool) → (n ≡ 0 → may ≡ true) → may ≡ false → 0 < n
some-done zero may first other = absurd (cc (first refl, other))
some-done (suc n) may first other = omega arith
