-- What is true of the state that a journal stands in is true of the state that its changes give.
use Rattle.std.proofs.Common.{◌≡◌, ◌⊎◌, ◌<◌, ℕ, Bool, true, false, List, Some, Result, Ok, Err, IsOk, OnOk, OnErr, refl, subst, inl, inr}
use Rattle.mix_refused.specs.declared.refused.Refused.{Refused}
use Rattle.mix_refused.specs.declared.refused.Refused.TheVariants.{Fault, Memory}
use Rattle.mix_refused.specs.Refused.{IfFault, IfMemory}
use Rattle.undo_core.specs.Replay.{replay}

pub on_err : {A B P : Type 0} (r : Result A B) → P → OnErr r P
on_err (Ok _) p = tt
on_err (Err _) p = p

module _ {S C F : Type 0} (gives : S → C → Result S F) (first t : S) (cs : List C) (came : replay gives first cs ≡ Some t) where
  pub same-state : (s : S) → replay gives first cs ≡ Some s → t ≡ s
  same-state s is = cc

  pub hold_given : (c : C) (u : S) → gives t c ≡ Ok u → (s : S) → replay gives first cs ≡ Some s → IsOk (gives s c)
  hold_given c u given s is = rw (← same-state s is, given) refl

  pub hold_fault : {T : Type 0} (c : C) (r : Result T (Refused F)) → IfFault r (λ f. gives t c ≡ Err f) →
      IfFault r (λ f. (s : S) → replay gives first cs ≡ Some s → gives s c ≡ Err f)
  hold_fault c (Ok _) h = tt
  hold_fault c (Err Memory) h = tt
  hold_fault c (Err (Fault f)) h = λ s is. subst (λ u. gives u c ≡ Err f) (same-state s is) h

  pub hold_memory : {T : Type 0} (c : C) (r : Result T (Refused F)) → IfMemory r (IsOk (gives t c)) →
      IfMemory r ((s : S) → replay gives first cs ≡ Some s → IsOk (gives s c))
  hold_memory c (Ok _) h = tt
  hold_memory c (Err (Fault f)) h = tt
  hold_memory c (Err Memory) h = λ s is. subst (λ u. IsOk (gives u c)) (same-state s is) h

  pub hold_all : {T : Type 0} (goes : S → C → Bool) (c : C) (n most : ℕ) (r : Result T (Refused F)) → OnOk r ((0 < n) × ((n ≡ most) ⊎ (goes t c ≡ false))) →
      OnOk r ((0 < n) × ((n ≡ most) ⊎ ((s : S) → replay gives first cs ≡ Some s → goes s c ≡ false)))
  hold_all goes c n most (Err _) h = tt
  hold_all goes c n most (Ok _) h = (h.0, ends h.1) where
    ends : (n ≡ most) ⊎ (goes t c ≡ false) → (n ≡ most) ⊎ ((s : S) → replay gives first cs ≡ Some s → goes s c ≡ false)
    ends (inl e) = inl e
    ends (inr e) = inr (λ s is. subst (λ u. goes u c ≡ false) (same-state s is) e)

  pub hold_going : {T : Type 0} (goes : S → C → Bool) (c : C) (n : ℕ) (r : Result T (Refused F)) → OnErr r (0 < n → goes t c ≡ true) →
      OnErr r (0 < n → (s : S) → replay gives first cs ≡ Some s → goes s c ≡ true)
  hold_going goes c n (Ok _) h = tt
  hold_going goes c n (Err _) h = λ some s is. subst (λ u. goes u c ≡ true) (same-state s is) (h some)
