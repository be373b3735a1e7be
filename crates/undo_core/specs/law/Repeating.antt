-- A change that is done once more after it was done so many times.
use Rattle.std.proofs.Common.{◌≡◌, ℕ, zero, suc, ◌+◌, ◌<◌, Bool, true, List, [], ◌++◌, Result, Ok, refl, sym, ◌∙◌, ap, subst, arith, append_assoc}
use Rattle.std.proofs.lemmas.List.{append-nil}
use Rattle.undo_core.specs.Repeat.{Repeats}

more-one : (n : ℕ) → suc n ≡ n + 1
more-one n = omega arith

module _ {S C F O : Type 0} (real : S → C → Type 0) (gives : S → C → Result S F) (keeps : S → C → List O) (goes : S → C → Bool) (c : C) where
  goes-on : (n : ℕ) (u t : S) (rest : List O) → (0 < n → goes u c ≡ true) → Repeats real gives keeps goes c n u t rest → (0 < suc n → goes t c ≡ true) → goes u c ≡ true
  goes-on zero u t rest h done going = subst (λ w. goes w c ≡ true) done.0 (going (omega arith))
  goes-on (suc n) u t rest h done going = h (omega arith)

  pub repeats-more : (n : ℕ) (s t v : S) (os : List O) → Repeats real gives keeps goes c n s t os → (0 < n → goes t c ≡ true) → real t c → gives t c ≡ Ok v →
      Repeats real gives keeps goes c (suc n) s v (os ++ keeps t c)
  repeats-more zero s t v os done going is given =
      let same = done.0 in
      let none = done.1 in (
        subst (λ u. real u c) same is,
        (
          v,
          subst (λ u. gives u c ≡ Ok v) same given,
          (λ some. absurd (omega (arith, some))),
          ([], ap (λ l. l ++ keeps t c) none ∙ ap (λ u. keeps u c) same ∙ sym (append-nil (keeps s c)), (refl, refl)),
        ),
      )
  repeats-more (suc n) s t v os done going is given =
      let u = done.1.0 in
      let rest = done.1.3.0 in
      let next = repeats-more n u t v rest done.1.3.2 (λ some. going (omega (arith, some))) is given in (
        done.0,
        (
          u,
          done.1.1,
          (λ some. goes-on n u t rest done.1.2 done.1.3.2 going),
          (rest ++ keeps t c, ap (λ l. l ++ keeps t c) done.1.3.1 ∙ append_assoc (keeps s c) rest (keeps t c), next),
        ),
      )

  pub did-more : (first kept kept_now : List O) (n : ℕ) (s t v : S) → ((os : List O) × (kept ≡ first ++ os) × Repeats real gives keeps goes c n s t os) →
      (0 < n → goes t c ≡ true) → real t c → gives t c ≡ Ok v → kept_now ≡ kept ++ keeps t c →
      (os : List O) × (kept_now ≡ first ++ os) × Repeats real gives keeps goes c (n + 1) s v os
  did-more first kept kept_now n s t v did going is given more = (
    did.0 ++ keeps t c,
    more ∙ ap (λ l. l ++ keeps t c) did.1 ∙ append_assoc first did.0 (keeps t c),
    subst (λ m. Repeats real gives keeps goes c m s v (did.0 ++ keeps t c)) (more-one n) (repeats-more n s t v did.0 did.2 going is given),
  )
