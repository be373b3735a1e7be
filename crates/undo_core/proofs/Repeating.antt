-- What is true of a change that is done again and again.
use Rattle.std.proofs.Common.{◌≡◌, ℕ, zero, suc, ◌<◌, Bool, List, ◌++◌, Option, Some, Result, Ok, IsOk, refl, ◌∙◌, ap, arith}
use Rattle.std.proofs.lemmas.List.{append-nil}
use Rattle.undo_core.specs.Prelude.{Repeats, put_back}
use Rattle.undo_core.proofs.ReplayLemmas.{put_back-append}

module _ {S C F O : Type 0} (real : S → C → Type 0) (gives : S → C → Result S F) (keeps : S → C → List O) (goes : S → C → Bool) (c : C) where
  -- the values of all of them lead back
  pub repeats-undone : (put : S → O → Option S) → ((s t : S) → real s c → gives s c ≡ Ok t → put_back put (keeps s c) t ≡ Some s) →
      (n : ℕ) (s t : S) (os : List O) → Repeats real gives keeps goes c n s t os → put_back put os t ≡ Some s
  repeats-undone put undoes zero s t os done = ap (λ l. put_back put l t) done.1 ∙ ap Some done.0
  repeats-undone put undoes (suc n) s t os done =
      let u = done.1.0 in
      let rest = done.1.3.0 in
      ap (λ l. put_back put l t) done.1.3.1
      ∙ put_back-append put (keeps s c) rest t u (repeats-undone put undoes n u t rest done.1.3.2)
      ∙ undoes s u done.0 done.1.1

  -- the first of them can be done
  pub repeats-first : (n : ℕ) (s t : S) (os : List O) → 0 < n → Repeats real gives keeps goes c n s t os → IsOk (gives s c)
  repeats-first zero s t os some done = absurd (omega (arith, some))
  repeats-first (suc n) s t os some done = rw done.1.1 refl

  -- done no times, it leaves the state and its values
  pub done_none : (many : ℕ) (s t : S) (kept kept_now os : List O) → many ≡ 0 → Repeats real gives keeps goes c many s t os → kept_now ≡ kept ++ os → (t ≡ s) × (kept_now ≡ kept)
  done_none zero s t kept kept_now os none did more = (did.0, more ∙ ap (λ l. kept ++ l) did.1 ∙ append-nil kept)
  done_none (suc n) s t kept kept_now os none did more = absurd (omega (arith, none))
