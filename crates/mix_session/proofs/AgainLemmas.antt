-- Where nothing stands ahead, a run that does changes again is one of new steps.
use Rattle.std.proofs.Common.{◌≡◌, ◌<◌, ◌≤◌, ◌∙◌, ℕ, zero, suc, [], Option, None, Some, refl, ap, sym}
use Rattle.std.proofs.Math.Path.{fun_ext}
use Rattle.std.specs.Option.{is_some, unwrap_or}
use Rattle.mix_session.specs.Prelude.{Effect, after, effect_of_run, count_of_run, end_at, end_of_last, least_below, StopsState, Timeline, moved, moved_once, Ran, Way, New, Again, End}
use Rattle.mix_session.specs.declared.reply.End.TheVariants.{Limit}
use Rattle.mix_session.proofs.CommandLemmas.{run-effect}

once-again : (t : Timeline) → t.ahead ≡ [] → moved_once Again t ≡ moved_once New t
once-again t none = rw none refl

moved-again : (t : Timeline) → t.ahead ≡ [] → (k : ℕ) → (moved Again t k ≡ moved New t k) × ((moved New t k).ahead ≡ [])
moved-again t none zero = (refl, none)
moved-again t none (suc k) = let here = moved-again t none k in (ap (moved_once Again) here.0 ∙ once-again (moved New t k) here.1, refl)

last-again : (stops : StopsState) (t : Timeline) → t.ahead ≡ [] → (k : ℕ) → end_of_last Again stops t k ≡ end_of_last New stops t k
last-again stops t none zero = refl
last-again stops t none (suc k) = rw ((moved-again t none k).0, once-again (moved New t k) (moved-again t none k).1) refl

end-again : (stops : StopsState) (t : Timeline) → t.ahead ≡ [] → (n k : ℕ) → end_at Again stops t n k ≡ end_at New stops t n k
unfolding end_at
end-again stops t none n k = rw (last-again stops t none k, (moved-again t none k).0) refl

-- a run by its stages and their ends
effect-by : (ℕ → Timeline) → (ℕ → Option End) → ℕ → Effect
effect-by stage end n = let k = least_below n (λ j. is_some (end j)) in record { stage = stage; last = k; answer = Ran k (unwrap_or (end k) Limit) }

effect-is : (way : Way) (stops : StopsState) (t : Timeline) (n : ℕ) → effect_of_run way stops t n ≡ effect-by (moved way t) (end_at way stops t n) n
unfolding effect_of_run count_of_run effect-by
effect-is way stops t n = refl

pub effect-again : (stops : StopsState) (t : Timeline) (n : ℕ) → t.ahead ≡ [] → effect_of_run New stops t n ≡ effect_of_run Again stops t n
effect-again stops t n none =
    effect-is New stops t n
    ∙ ap (λ stage. effect-by stage (end_at New stops t n) n) (fun_ext (λ k. sym (moved-again t none k).0))
    ∙ ap (λ end. effect-by (moved Again t) end n) (fun_ext (λ k. sym (end-again stops t none n k)))
    ∙ sym (effect-is Again stops t n)

-- the effect of a run by another way that gives the same
pub run-on : (way onward : Way) (stops : StopsState) (t began now : Timeline) (n k : ℕ) (end : End) → began ≡ t →
    effect_of_run onward stops began n ≡ effect_of_run way stops began n → now ≡ moved onward began k → k ≤ n → end_at onward stops began n k ≡ Some end →
    ((j : ℕ) → j < k → end_at onward stops began n j ≡ None) → (now ≡ after (effect_of_run way stops t n)) × ((effect_of_run way stops t n).answer ≡ Ran k end)
run-on way onward stops t began now n k end same gives led within holds before =
    rw (← same, ← gives) (run-effect onward stops began began now n k end refl led within holds before)
