-- Rows: what searches find, which nodes are reached in each row, and that no more are reached once a row has none.
use Rattle.std.proofs.Common.{◌≡◌, ℕ, zero, suc, ◌+◌, ◌-◌, ◌<◌, ◌≤◌, ◌&&◌, ◌||◌, Bool, true, false, Option, Some, None, List, length, refl, sym, ap, ◌∙◌, arith}
use Rattle.std.specs.Prelude.{nat_lt}
use Rattle.std.specs.Option.{option_or}
use Rattle.std.proofs.lemmas.Bool.{ltb-true, ltb-false, eq-eqb, true≢false}
use Rattle.std.proofs.lemmas.List.{get_or_past}
use Rattle.std.proofs.lemmas.Option.{none-some}
use Rattle.mix_nodes.specs.Rows.{any_below, is_row, is_within, least_below, row_below, row_by, row_if, row_in}

-- ---- choices

by_test : {P : Type 0} (t : Bool) → (t ≡ true → P) → (t ≡ false → P) → P
by_test true at_true at_false = at_true refl
by_test false at_true at_false = at_false refl

never : {P : Type 0} (t : Bool) → t ≡ true → t ≡ false → P
never t is_true is_false = absurd (true≢false (sym is_true ∙ is_false))

pub or-none : {A : Type 0} (o : Option A) → option_or o None ≡ o
or-none None = refl
or-none (Some x) = refl

or-left : (p q : Bool) → p ≡ true → (p || q) ≡ true
or-left true q e = refl
or-left false q e = never false e refl

or-right : (p q : Bool) → q ≡ true → (p || q) ≡ true
or-right true q e = refl
or-right false q e = e

and-same : (p q t : Bool) → (t ≡ true → p ≡ q) → (p && t) ≡ (q && t)
and-same p q true same = ap (λ x. x && true) (same refl)
and-same true true false same = refl
and-same true false false same = refl
and-same false true false same = refl
and-same false false false same = refl

both : (p q : Bool) → p ≡ true → q ≡ true → (p && q) ≡ true
both true q e f = f
both false q e f = never false e refl

or-same : (o : Option ℕ) (p q : Bool) (row : ℕ) → (o ≡ None → p ≡ q) → option_or o (row_if p row) ≡ option_or o (row_if q row)
or-same (Some x) p q row same = refl
or-same None p q row same = ap (λ t. row_if t row) (same refl)

-- ---- searches

-- two tests that agree on the numbers below n
any-same : (n : ℕ) (f g : ℕ → Bool) → ((a : ℕ) → a < n → f a ≡ g a) → any_below n f ≡ any_below n g
any-same zero f g same = refl
any-same (suc n) f g same =
    let before = any-same n f g (λ a less. same a (omega (arith, less))) in
    ap (λ t. t || f n) before ∙ ap (λ t. any_below n g || t) (same n (omega arith))

any-at : (n : ℕ) (f : ℕ → Bool) (a : ℕ) → a < n → f a ≡ true → any_below n f ≡ true
any-at zero f a less at = absurd (omega (arith, less))
any-at (suc n) f a less at =
    by_test (nat_lt a n)
    (λ e. or-left (any_below n f) (f n) (any-at n f a (ltb-true a n e) at))
    (λ e. let same : a ≡ n = omega (arith, less, ltb-false a n e) in or-right (any_below n f) (f n) (ap f (sym same) ∙ at))

some-is : (n k : ℕ) → Some n ≡ Some k → n ≡ k
some-is n k same = cc

least-step : (n : ℕ) (test : ℕ → Bool) (k : ℕ) (o : Option ℕ) (t : Bool) → test n ≡ t → (o ≡ Some k → (k < n) × (test k ≡ true))
    → option_or o (row_if t n) ≡ Some k → (k < suc n) × (test k ≡ true)
least-step n test k (Some j) t e before found = let r = before found in (omega (arith, r.0), r.1)
least-step n test k None true e before found = let same = some-is n k found in (omega (arith, same), ap test (sym same) ∙ e)
least-step n test k None false e before found = absurd (none-some k found)

-- what a search finds
least-is : (n : ℕ) (test : ℕ → Bool) (k : ℕ) → least_below n test ≡ Some k → (k < n) × (test k ≡ true)
least-is zero test k found = absurd (none-some k found)
least-is (suc n) test k found = least-step n test k (least_below n test) (test n) refl (least-is n test k) found

none-here : (o : Option ℕ) (t : Bool) (n : ℕ) → option_or o (row_if t n) ≡ None → t ≡ false
none-here (Some x) t n none = absurd (none-some x (sym none))
none-here None true n none = absurd (none-some n (sym none))
none-here None false n none = refl

-- ---- nodes that are reached

module _ (root : ℕ → Bool) (leads : ℕ → ℕ → Bool) (n : ℕ) where
  within-first : (b : ℕ) → is_within root leads n 0 b ≡ root b
  unfolding is_within
  within-first b = refl

  within-next : (k b : ℕ) → is_within root leads n (suc k) b ≡ (is_within root leads n k b || any_below n (λ a. is_within root leads n k a && leads a b))
  unfolding is_within
  within-next k b = refl

  within-later : (k m b : ℕ) → k ≤ m → is_within root leads n k b ≡ true → is_within root leads n m b ≡ true
  within-later k zero b most reached = let same : k ≡ 0 = omega (arith, most) in ap (λ j. is_within root leads n j b) (sym same) ∙ reached
  within-later k (suc m) b most reached =
      by_test (nat_lt m k)
      (λ e. let same : k ≡ suc m = omega (arith, most, ltb-true m k e) in ap (λ j. is_within root leads n j b) (sym same) ∙ reached)
      (λ e. within-next m b ∙ or-left _ _ (within-later k m b (ltb-false m k e) reached))

  -- a node in a row has its links lead to nodes that are reached in the next one
  within-link : (k a b : ℕ) → a < n → is_within root leads n k a ≡ true → leads a b ≡ true → is_within root leads n (suc k) b ≡ true
  within-link k a b less reached link =
      within-next k b ∙ or-right _ _ (any-at n (λ c. is_within root leads n k c && leads c b) a less (both _ _ reached link))

  -- where a node b is not reached yet, a link to it comes from no earlier row
  in-last : (k a b : ℕ) → a < n → is_within root leads n k b ≡ false → leads a b ≡ true → (o : Option ℕ) → row_below root leads n k a ≡ o
      → (t : Bool) → is_within root leads n k a ≡ t → is_row k (option_or o (row_if t k)) ≡ t
  in-last k a b less missed link (Some j) is t e =
      let found = least-is k (λ i. is_within root leads n i a) j is in
      let reached = within-link j a b less found.1 link in
      never (is_within root leads n k b) (within-later (suc j) k b (omega (arith, found.0)) reached) missed
  in-last k a b less missed link None is true e = eq-eqb k k refl
  in-last k a b less missed link None is false e = refl

  -- a row more: what the links of the last row lead to
  next-row : (k b : ℕ) → option_or (row_below root leads n (suc k) b) (row_if (any_below n (λ a. is_row k (row_below root leads n (suc k) a) && leads a b)) (suc k))
      ≡ row_below root leads n (suc (suc k)) b
  next-row k b =
      or-same (row_below root leads n (suc k) b) _ (is_within root leads n (suc k) b) (suc k)
      (λ none. let missed = none-here (row_below root leads n k b) (is_within root leads n k b) k none in
      any-same n _ _ (λ a less. and-same _ _ (leads a b)
      (λ link. in-last k a b less missed link (row_below root leads n k a) refl (is_within root leads n k a) refl))
      ∙ ap (λ t. t || any_below n (λ a. is_within root leads n k a && leads a b)) (sym missed) ∙ sym (within-next k b))

  -- the rows so far, and those that are found by links of the last one
  pub rows-next : (k m : ℕ) (old : ℕ → Option ℕ) → m ≡ k + 1 → ((b : ℕ) → b < n → old b ≡ row_below root leads n m b)
      → (b : ℕ) → b < n → option_or (old b) (row_if (any_below n (λ a. is_row k (old a) && leads a b)) (k + 1)) ≡ row_below root leads n (m + 1) b
  rows-next k m old more so_far b less =
      let next : k + 1 ≡ suc k = omega arith in
      let here : m ≡ suc k = omega (arith, more) in
      let there : m + 1 ≡ suc (suc k) = omega (arith, more) in
      let known : (a : ℕ) → a < n → old a ≡ row_below root leads n (suc k) a = λ a l. so_far a l ∙ ap (λ j. row_below root leads n j a) here in
      ap (λ o. option_or o (row_if (any_below n (λ a. is_row k (old a) && leads a b)) (k + 1))) (known b less)
      ∙ ap (λ t. option_or (row_below root leads n (suc k) b) (row_if t (k + 1))) (any-same n _ _ (λ a l. ap (λ o. is_row k o && leads a b) (known a l)))
      ∙ ap (λ r. option_or (row_below root leads n (suc k) b) (row_if (any_below n (λ a. is_row k (row_below root leads n (suc k) a) && leads a b)) r)) next
      ∙ next-row k b ∙ ap (λ j. row_below root leads n j b) (sym there)

  -- ---- a round that finds nothing

  -- what is reached is in a row
  reached-row : (k b j : ℕ) → row_below root leads n (suc k) b ≡ Some j → is_within root leads n k b ≡ true
  reached-row k b j is =
      let found = least-is (suc k) (λ i. is_within root leads n i b) j is in within-later j k b (omega (arith, found.0)) found.1

  closed-step : (k b : ℕ) (o : Option ℕ) (t : Bool) → row_below root leads n (suc k) b ≡ o → is_within root leads n (suc k) b ≡ t
      → option_or o (row_if t (suc k)) ≡ o → is_within root leads n (suc k) b ≡ is_within root leads n k b
  closed-step k b (Some j) t is e same =
      let before = reached-row k b j is in within-later k (suc k) b (omega arith) before ∙ sym before
  closed-step k b None true is e same = absurd (none-some (suc k) (sym same))
  closed-step k b None false is e same = e ∙ sym (none-here (row_below root leads n k b) (is_within root leads n k b) k is)

  -- no more nodes are reached
  closed : (k : ℕ) → ((b : ℕ) → b < n → is_within root leads n (suc k) b ≡ is_within root leads n k b)
      → (m b : ℕ) → b < n → is_within root leads n (m + k) b ≡ is_within root leads n k b
  closed k same zero b less = ap (λ j. is_within root leads n j b) (omega arith)
  closed k same (suc m) b less =
      ap (λ j. is_within root leads n j b) (omega arith) ∙ within-next (m + k) b
      ∙ ap (λ t. t || any_below n (λ a. is_within root leads n (m + k) a && leads a b)) (closed k same m b less)
      ∙ ap (λ t. is_within root leads n k b || t) (any-same n _ _ (λ a l. ap (λ t. t && leads a b) (closed k same m a l)))
      ∙ sym (within-next k b) ∙ same b less

  still-row : (o : Option ℕ) (t : Bool) (k i : ℕ) → option_or (option_or o (row_if t k)) (row_if t i) ≡ option_or o (row_if t k)
  still-row (Some x) t k i = refl
  still-row None true k i = refl
  still-row None false k i = refl

  -- no more rows are found
  still : (k : ℕ) → ((b : ℕ) → b < n → is_within root leads n (suc k) b ≡ is_within root leads n k b)
      → (m b : ℕ) → b < n → row_below root leads n (m + suc k) b ≡ row_below root leads n (suc k) b
  still k same zero b less = let here : zero + suc k ≡ suc k = omega arith in ap (λ j. row_below root leads n j b) here
  still k same (suc m) b less =
      let again : suc m + suc k ≡ suc (m + suc k) = omega arith in
      let more : m + suc k ≡ suc m + k = omega arith in
      let last : is_within root leads n (m + suc k) b ≡ is_within root leads n k b =
      ap (λ j. is_within root leads n j b) more ∙ closed k same (suc m) b less in
      ap (λ j. row_below root leads n j b) again ∙ ap (λ o. option_or o (row_if (is_within root leads n (m + suc k) b) (m + suc k))) (still k same m b less)
      ∙ ap (λ t. option_or (row_below root leads n (suc k) b) (row_if t (m + suc k))) last
      ∙ still-row (row_below root leads n k b) (is_within root leads n k b) k (m + suc k)

  -- where a row more is no row more, these are the rows
  pub rows-end : (k : ℕ) (rows : ℕ → Option ℕ) → ((b : ℕ) → b < n → rows b ≡ row_below root leads n (k + 1) b)
      → ((b : ℕ) → b < n → rows b ≡ row_below root leads n (k + 2) b) → k + 1 < n
      → (b : ℕ) → b < n → rows b ≡ row_below root leads n n b
  rows-end k rows so_far more most b less =
      let one : k + 1 ≡ suc k = omega arith in
      let two : k + 2 ≡ suc (suc k) = omega arith in
      let far : n ≡ (n - suc k) + suc k = omega (arith, most) in
      let known : (a : ℕ) → a < n → rows a ≡ row_below root leads n (suc k) a = λ a l. so_far a l ∙ ap (λ j. row_below root leads n j a) one in
      let again : (a : ℕ) → a < n → rows a ≡ row_below root leads n (suc (suc k)) a = λ a l. more a l ∙ ap (λ j. row_below root leads n j a) two in
      let same : (a : ℕ) → a < n → is_within root leads n (suc k) a ≡ is_within root leads n k a =
      λ a l. closed-step k a (row_below root leads n (suc k) a) (is_within root leads n (suc k) a) refl refl (sym (again a l) ∙ known a l) in
      known b less ∙ sym (still k same (n - suc k) b less) ∙ ap (λ j. row_below root leads n j b) (sym far)

  -- the roots are in row 0
  pub rows-first : (rows : ℕ → Option ℕ) → ((b : ℕ) → b < n → rows b ≡ row_if (root b) 0) → (b : ℕ) → b < n → rows b ≡ row_below root leads n 1 b
  rows-first rows first b less = first b less ∙ ap (λ t. row_if t 0) (sym (within-first b))

  -- rows of all nodes, and none behind them
  pub rows-all : (rows : List (Option ℕ)) → length rows ≡ n → ((b : ℕ) → b < n → row_in rows b ≡ row_below root leads n n b)
      → (b : ℕ) → row_in rows b ≡ row_by root leads n b
  rows-all rows len each b =
      by_test (nat_lt b n)
      (λ e. rw e (each b (ltb-true b n e)))
      (λ e. rw e (get_or_past rows b None (omega (arith, len, ltb-false b n e))))
