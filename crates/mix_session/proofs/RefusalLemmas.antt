-- A request that is refused leaves the timeline as it was, whichever it is.
use Rattle.std.proofs.Common.{◌≡◌, ◌+◌, ◌-◌, ℕ, Bool, true, false, length, ltb, Some, None, Result, Ok, Err, sym, ◌∙◌, refl}
use Rattle.std.specs.Prelude.{IfOk, IfSome, if◌then◌else◌}
use Rattle.mix_refused.specs.declared.refused.Memory.{Memory}
use Rattle.mix_machine.specs.Prelude.{does, WorldState}
use Rattle.mix_machine.specs.declared.fault.MixFault.{MixFault}
use Rattle.mix_machine.specs.declared.old.Change.{Change}
use Rattle.mix_session.specs.Prelude.{Timeline, world_of, forth_by, refusal_of, has_conflict, Answer, Request}
use Rattle.mix_session.specs.Command.{Effect, after, at_once, taken_back, refusal_effect, sought, count_back, count_forth, effect_of, effect_of_run, effect_of_back, effect_of_forth, effect_of_forth_within, effect_of_back_until, effect_of_forth_until, effect_of_change, effect_of_result, effect_of_show, is_there, HasEffect}
use Rattle.mix_session.specs.declared.answer.Answer.TheVariants as answers
use Rattle.mix_session.specs.declared.fault.Refusal.TheVariants.{TooFewChanges, NoSuchChange}
use Rattle.mix_session.specs.declared.request.topics.Topic.{Topic}
use Rattle.mix_session.specs.declared.request.Request.TheVariants as ask
use Rattle.mix_session.proofs.UntilLemmas.{sought-end}

-- what is refused leaves the timeline
abbrev pub Spares : Timeline → Effect → Type 0
Spares t effect = IfSome (refusal_of effect.answer) (λ _. after effect ≡ t)

either : (b : Bool) (t : Timeline) (one other : Effect) → Spares t one → Spares t other → Spares t (if b then one else other)
either b t one other p q = elim b as (λ v. Spares t (if v then one else other)) [ true ↦ p | false ↦ q ]

of_result : (t : Timeline) (change : Change) (r : Result WorldState MixFault) → Spares t (effect_of_result t change r)
of_result t change (Ok world) = tt
of_result t change (Err fault) = refl

of_show : (t : Timeline) (shown : Topic) → Spares t (effect_of_show t shown)
of_show t shown = either (is_there t shown) t (at_once t (answers.Shows shown)) (refusal_effect t TooFewChanges) tt refl

of_taken : (b : Bool) (t : Timeline) (n : ℕ) → Spares t (taken_back b t n)
of_taken true t n = tt
of_taken false t n = tt

pub spares : (t : Timeline) (r : Request) → Spares t (effect_of t r)
unfolding effect_of effect_of_run effect_of_back_until effect_of_forth_until effect_of_change
spares t ask.Nothing = tt
spares t (ask.Step n) = tt
spares t (ask.Trace n) = tt
spares t (ask.Run n) = tt
spares t (ask.RunUntil n conditions) = tt
spares t (ask.Back n) = either (ltb (length t.changes) n) t (refusal_effect t TooFewChanges) (effect_of_back t n) refl tt
spares t ask.BackAll = tt
spares t ask.BackBreak = tt
spares t (ask.BackUntil conditions) =
    let k = count_back conditions t in
    let waits = has_conflict conditions in
    either (ltb k (length t.changes)) t (taken_back waits t (k + 1)) (refusal_effect t NoSuchChange) (of_taken waits t (k + 1)) refl
spares t (ask.Forth n) = either (ltb (length t.ahead) n) t (refusal_effect t TooFewChanges) (effect_of_forth t n) refl tt
spares t ask.ForthAll = tt
spares t (ask.ForthUntil conditions) =
    let k = count_forth conditions t in
    either (ltb k (length t.ahead)) t (record { stage = forth_by t; last = k + 1; answer = answers.ForthUntil (k + 1) })
    (record { stage = sought t; last = length t.ahead; answer = answers.Refused NoSuchChange }) tt (sym (sought-end t))
spares t (ask.Goto n) =
    let done = length t.changes in
    either (ltb n done) t (effect_of_back t (done - n)) (effect_of_forth_within t (n - done)) tt
    (either (ltb (length t.ahead) (n - done)) t (refusal_effect t TooFewChanges) (effect_of_forth t (n - done)) refl tt)
spares t (ask.Change change) = of_result t change (does (world_of t) change)
spares t (ask.Show shown) = of_show t shown

-- the same of what is done to a journal
pub refused_spares : (old new : Timeline) (r : Request) (result : Result Answer Memory) → HasEffect (effect_of old r) old new result →
    IfOk result (λ answer. IfSome (refusal_of answer) (λ _. new ≡ old))
refused_spares old new r (Ok answer) has =
    rw has.2 (elim (refusal_of (effect_of old r).answer) as (λ o. IfSome o (λ _. after (effect_of old r) ≡ old) → IfSome o (λ _. new ≡ old)) [
      | None ↦ λ _. tt
      | Some refusal ↦ λ same. has.1 ∙ same
    ] (spares old r))
refused_spares old new r (Err memory) has = tt
