-- Plain steps, over plain variables: they are new steps, and a free run goes on after each of them.
use Rattle.std.proofs.Common.{◌≡◌, ◌<◌, ◌==◌, ◌∙◌, ◌++◌, ℕ, zero, suc, Bool, true, false, ◌&&◌, ◌||◌, not, List, [], ◌∷◌, replicate, Result, Err, Some, Ok, refl, ap, sym, subst, arith, append_assoc, nat_le, nat_lt}
use Rattle.std.proofs.lemmas.Bool.{and_parts}
use Rattle.std.proofs.lemmas.Bool.Decides.{nat_tests}
use Rattle.std.proofs.lemmas.List.{append-nil}
use Rattle.std.specs.Option.{option_and_then}
use Rattle.std.specs.Result.{IsOk, OnErr, result_ok}
use Rattle.mix_refused.specs.declared.refused.Refused.{Refused}
use Rattle.mix_refused.specs.Refused.{IfMemory}
use Rattle.mix_refused.specs.declared.refused.Memory.{Memory}
use Rattle.mix_refused.specs.declared.refused.Refused.TheVariants as refused
use Rattle.undo_core.specs.Prelude.{HoldsOfState, Repeats, goes_unless, replay}
use Rattle.mix_machine.specs.Prelude.{WorldState, IsWorld, has_break, instruction, does, kept_values, IsReal, is_step, is_halt_next, is_plain_next, steps_on}
use Rattle.mix_machine.specs.declared.fault.MixFault.{MixFault}
use Rattle.mix_machine.specs.declared.old.Change.{Change}
use Rattle.mix_machine.specs.declared.old.Change.TheVariants.{Step}
use Rattle.mix_machine.specs.declared.old.Old.{Old}
use Rattle.mix_session.specs.Prelude.{ArePlain, IsLeft, Timeline, world_of, with_change, is_at_break}
use Rattle.mix_session.proofs.TimelineLemmas.{timeline-is, world_of-is}

-- a step keeps the breakpoints
abbrev pub BreaksLaw : Type 0
BreaksLaw = (v w : WorldState) → does v Step ≡ Ok w → w.breaks ≡ v.breaks

-- one change more after others
replay-more : (s u w : WorldState) (cs : List Change) (c : Change) → replay does s cs ≡ Some u → does u c ≡ Ok w → replay does s (cs ++ c ∷ []) ≡ Some w
replay-more s u w [] c e given = let same : s ≡ u = cc in rw (same, given) refl
replay-more s u w (d ∷ cs) c e given =
    (elim (does s d) as (λ r. option_and_then (λ (t : WorldState). replay does t cs) (result_ok r) ≡ Some u →
    option_and_then (λ (t : WorldState). replay does t (cs ++ c ∷ [])) (result_ok r) ≡ Some w) [
      | Ok v ↦ λ h. replay-more v u w cs c h given
      | Err fault ↦ λ h. absurd (cc)
    ]) e

-- the machine and a change are those of the program
abbrev pub IsRealStep : WorldState → Change → Type 0
IsRealStep w c = IsWorld w × IsReal c

abbrev pub goes_on : (WorldState → Bool) → WorldState → Change → Bool
goes_on ends = goes_unless ends (λ w c. is_step c && is_plain_next w)

-- a step that goes on is plain, and no end is there
pub on-plain : (ends : WorldState → Bool) (w : WorldState) → steps_on ends w ≡ true → (not (ends w) ≡ true) × (is_plain_next w ≡ true)
on-plain ends w on = and_parts (not (ends w)) (is_plain_next w) on

-- steps that are done again and again, the first of which is plain too
pub plain-repeats : (ends : WorldState → Bool) (n : ℕ) (t next : Timeline) (s u : WorldState) (os : List Old) → replay does t.first t.changes ≡ Some s →
    (0 < n → is_plain_next s ≡ true) → Repeats IsRealStep does kept_values (goes_on ends) Step n s u os → next.first ≡ t.first →
    next.changes ≡ t.changes ++ replicate n Step → (n ≡ 0 → next ≡ t) → (0 < n → next.ahead ≡ []) → ArePlain ends n t next
plain-repeats ends zero t next s u os here plain done first changes none ahead = none refl
plain-repeats ends (suc n) t next s u os here plain done first changes none ahead =
    let v = done.1.0 in
    let led = with_change t Step in
    let there : replay does led.first led.changes ≡ Some v = replay-more t.first s v t.changes Step here done.1.1 in
    let more : next.changes ≡ led.changes ++ replicate n Step = changes ∙ sym (append_assoc t.changes (Step ∷ []) (replicate n Step)) in
    let last : n ≡ 0 → next ≡ led = λ e.
    timeline-is next led.first led.changes led.ahead first (more ∙ ap (λ k. led.changes ++ replicate k Step) e ∙ append-nil led.changes) (ahead (omega arith)) in
    let before : world_of t ≡ s = world_of-is t t s refl here in
    let after : world_of led ≡ v = world_of-is led led v refl there in (
      rw before (plain (omega arith)),
      rw (before, after) done.1.1,
      (λ some. rw after (done.1.2 some)),
      plain-repeats ends n led next v u done.1.3.0 there (λ some. (on-plain ends v (done.1.2 some)).1) done.1.3.2 first more last (λ some. ahead (omega arith)),
    )

-- where memory is out, the steps go on, and the next one could be done
pub steps-left : {A B : Type 0} (ends : WorldState → Bool) (n most : ℕ) (next : Timeline) (u : WorldState) (answer : Result A (Refused MixFault)) (said : Result B Memory) →
    replay does next.first next.changes ≡ Some u → OnErr answer (0 < n → HoldsOfState does next (λ w. goes_on ends w Step ≡ true)) →
    IfMemory answer (HoldsOfState does next (λ w. IsOk (does w Step))) → OnErr said (answer ≡ Err refused.Memory) → OnErr said (nat_lt n most ≡ true) →
    OnErr said (IsLeft ends n most next)
steps-left {A} {B} ends n most next u answer (Ok x) here going last out fewer = tt
steps-left {A} {B} ends n most next u answer (Err e) here going last out fewer =
    let state = sym (world_of-is next next u refl here) in
    let could : HoldsOfState does next (λ w. IsOk (does w Step)) =
    subst (λ (a : Result A (Refused MixFault)). IfMemory a (HoldsOfState does next (λ w. IsOk (does w Step)))) out last in
    let on : 0 < n → HoldsOfState does next (λ w. goes_on ends w Step ≡ true) =
    subst (λ (a : Result A (Refused MixFault)). OnErr a (0 < n → HoldsOfState does next (λ w. goes_on ends w Step ≡ true))) out going in
    record {
      fewer = grind (arith, nat_tests, fewer);
      going = λ some. subst (λ (w : WorldState). steps_on ends w ≡ true) state (on some u here);
      more = subst (λ (w : WorldState). IsOk (does w Step)) state (could u here);
    }

-- a plain step is no halt
code-plain : (b five other two : Bool) → (b && not (five || other)) ≡ true → (b && five && two) ≡ false
code-plain true true other two plain = absurd (cc)
code-plain true false other two plain = refl
code-plain false five other two plain = refl

pub plain-no_halt : (w : WorldState) → is_plain_next w ≡ true → is_halt_next w ≡ false
plain-no_halt w plain =
    let code = (instruction w).code in
    code-plain (nat_lt w.loc 4000) (code == 5) (nat_le 35 code && nat_le code 37) ((instruction w).f == 2) plain

-- no breakpoint is met
break-none : (b met : Bool) → (b ≡ true → met ≡ false) → (b && met) ≡ false
break-none true met none = none refl
break-none false met none = refl

no-break : (breaks : Bool) (w : WorldState) → (breaks ≡ true → (p : ℕ) → p < 4000 → has_break w p ≡ false) → (breaks && is_at_break w) ≡ false
no-break breaks w none =
    break-none breaks (is_at_break w) (λ stops. break-none (nat_lt w.loc 4000) (has_break w w.loc) (λ below. none stops w.loc (grind (arith, nat_tests))))
