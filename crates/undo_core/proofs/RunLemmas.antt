-- The items of runs, cut at one of them.
use Rattle.std.proofs.Common.{◌≡◌, ℕ, true, false, nat_lt, zero, suc, ◌+◌, ◌-◌, ◌<◌, ◌≤◌, List, [], ◌∷◌, ◌++◌, length, take, drop, get_or, set, replicate, subst, refl, sym, ◌∙◌, ap, arith, length-append, append_assoc}
use Rattle.std.proofs.lemmas.List.{append-nil, length-replicate, replicate-append-replicate, take-append-drop, take-append-le, take-replicate, get_or-append_right, get_or_append_left, get_or-replicate, drop_more, length-take-le, take_all, take_more, drop_all, set_split, take-take, get_or-take, get_or_default}
use Rattle.std.proofs.lemmas.Bool.Decides.{nat_tests}
use Rattle.undo_core.specs.Prelude.{items_of, IsRising, end_of, Run}

-- the first items of two lists, as many as the first has and more
take-join : {A : Type 0} (xs ys : List A) (k n : ℕ) → length xs + k ≡ n → take n (xs ++ ys) ≡ xs ++ take k ys
take-join [] ys k n is = let same : n ≡ k = omega (arith, is) in ap (λ m. take m ys) same
take-join (x ∷ xs) ys k zero is = absurd (omega (arith, is))
take-join (x ∷ xs) ys k (suc n) is = ap (λ l. x ∷ l) (take-join xs ys k n (omega (arith, is)))

module _ {T : Type 0} where
  pub items-join : (before : ℕ) (xs ys : List (Run T)) → items_of before (xs ++ ys) ≡ items_of before xs ++ items_of (end_of before xs) ys
  items-join before [] ys = refl
  items-join before (x ∷ xs) ys =
      ap (λ items. replicate (x.end - before) x.item ++ items) (items-join x.end xs ys)
      ∙ sym (append_assoc (replicate (x.end - before) x.item) (items_of x.end xs) (items_of (end_of x.end xs) ys))

  pub end-join : (before : ℕ) (xs ys : List (Run T)) → end_of before (xs ++ ys) ≡ end_of (end_of before xs) ys
  end-join before [] ys = refl
  end-join before (x ∷ xs) ys = end-join x.end xs ys

  pub rising-join : (before : ℕ) (xs ys : List (Run T)) → IsRising before xs → IsRising (end_of before xs) ys → IsRising before (xs ++ ys)
  rising-join before [] ys h g = g
  rising-join before (x ∷ xs) ys h g = (h.0, rising-join x.end xs ys h.1 g)

  pub rising-left : (before : ℕ) (xs ys : List (Run T)) → IsRising before (xs ++ ys) → IsRising before xs
  rising-left before [] ys h = tt
  rising-left before (x ∷ xs) ys h = (h.0, rising-left x.end xs ys h.1)

  pub rising-right : (before : ℕ) (xs ys : List (Run T)) → IsRising before (xs ++ ys) → IsRising (end_of before xs) ys
  rising-right before [] ys h = h
  rising-right before (x ∷ xs) ys h = rising-right x.end xs ys h.1

  -- the runs end where their items do
  pub length-items : (before : ℕ) (xs : List (Run T)) → IsRising before xs → before + length (items_of before xs) ≡ end_of before xs
  length-items before [] h = omega arith
  length-items before (x ∷ xs) h =
      let rest = length-items x.end xs h.1 in
      omega (arith, rest, h.0, length-append (replicate (x.end - before) x.item) (items_of x.end xs), length-replicate (x.end - before) x.item)

  -- the runs up to one, and that one
  pub at-run : (xs : List (Run T)) (at : ℕ) (x : Run T) → at < length xs → x ≡ get_or xs at x → xs ≡ take at xs ++ x ∷ drop (at + 1) xs
  at-run xs at x below is = sym (take-append-drop at xs) ∙ ap (λ rest. take at xs ++ rest) (drop_more xs at x below ∙ ap (λ y. y ∷ drop (at + 1) xs) (sym is))

  -- the last run
  pub last-run : (xs : List (Run T)) (x : Run T) → 0 < length xs → x ≡ get_or xs (length xs - 1) x → xs ≡ take (length xs - 1) xs ++ x ∷ []
  last-run xs x some is = at-run xs (length xs - 1) x (omega arith) is ∙ ap (λ rest. take (length xs - 1) xs ++ x ∷ rest) (grind (arith, drop_all))

  pub end-last : (front : List (Run T)) (x : Run T) → end_of 0 (front ++ x ∷ []) ≡ x.end
  end-last front x = end-join 0 front (x ∷ [])

  pub end-at : (xs : List (Run T)) (at : ℕ) (x : Run T) → at < length xs → x ≡ get_or xs at x → end_of 0 (take (at + 1) xs) ≡ x.end
  end-at xs at x below is = ap (end_of 0) (take_more xs at x below ∙ ap (λ y. take at xs ++ y ∷ []) (sym is)) ∙ end-last (take at xs) x

  -- the items end where the last run does
  pub end-is : (xs : List (Run T)) (x : Run T) → 0 < length xs → x ≡ get_or xs (length xs - 1) x → x.end ≡ end_of 0 xs
  end-is xs x some is = sym (ap (end_of 0) (last-run xs x some is) ∙ end-last (take (length xs - 1) xs) x)

  pub length-end : (xs : List (Run T)) → IsRising 0 xs → length (items_of 0 xs) ≡ end_of 0 xs
  length-end xs rising = let len = length-items 0 xs rising in omega (arith, len)

  pub items-last : (front : List (Run T)) (x : Run T) → items_of 0 (front ++ x ∷ []) ≡ items_of 0 front ++ replicate (x.end - end_of 0 front) x.item
  items-last front x = items-join 0 front (x ∷ []) ∙ ap (λ items. items_of 0 front ++ items) (append-nil (replicate (x.end - end_of 0 front) x.item))

  -- more of the same item at the end of the last run
  pub items-longer : (front : List (Run T)) (x : Run T) (n many : ℕ) → end_of 0 front ≤ x.end → n ≡ x.end + many →
      items_of 0 (front ++ (record { item = x.item; end = n }) ∷ []) ≡ items_of 0 (front ++ x ∷ []) ++ replicate many x.item
  items-longer front x n many within is =
      let more : n - end_of 0 front ≡ x.end - end_of 0 front + many = omega (arith, within, is) in
      items-last front (record { item = x.item; end = n })
      ∙ ap (λ items. items_of 0 front ++ items) (ap (λ k. replicate k x.item) more ∙ sym (replicate-append-replicate (x.end - end_of 0 front) many x.item))
      ∙ sym (append_assoc (items_of 0 front) (replicate (x.end - end_of 0 front) x.item) (replicate many x.item))
      ∙ ap (λ items. items ++ replicate many x.item) (sym (items-last front x))

  -- a run of so many items more
  pub items-more : (front : List (Run T)) (item : T) (n many : ℕ) → n ≡ end_of 0 front + many →
      items_of 0 (front ++ (record { item = item; end = n }) ∷ []) ≡ items_of 0 front ++ replicate many item
  items-more front item n many is =
      let all : n - end_of 0 front ≡ many = omega (arith, is) in
      items-last front (record { item = item; end = n }) ∙ ap (λ k. items_of 0 front ++ replicate k item) all

  -- the item of a number that a run has
  pub item-in : (front rest : List (Run T)) (x : Run T) (number : ℕ) (d : T) → IsRising 0 (front ++ x ∷ rest) → end_of 0 front ≤ number → number < x.end →
      get_or (items_of 0 (front ++ x ∷ rest)) number d ≡ x.item
  item-in front rest x number d rising from below =
      let len = length-items 0 front (rising-left 0 front (x ∷ rest) rising) in
      let there : length (items_of 0 front) ≡ end_of 0 front = omega (arith, len) in
      let many = length-replicate (x.end - end_of 0 front) x.item in
      ap (λ items. get_or items number d) (items-join 0 front (x ∷ rest))
      ∙ get_or-append_right (items_of 0 front) _ (end_of 0 front) number d there from
      ∙ get_or_append_left (replicate (x.end - end_of 0 front) x.item) _ d (number - end_of 0 front) (omega (arith, many, from, below))
      ∙ get_or-replicate (x.end - end_of 0 front) (number - end_of 0 front) x.item d (omega (arith, from, below))

  -- the first items, where the last of them stands in a run
  pub items-cut : (front rest : List (Run T)) (x : Run T) (count : ℕ) → IsRising 0 (front ++ x ∷ rest) → end_of 0 front ≤ count → count ≤ x.end →
      items_of 0 (front ++ (record { item = x.item; end = count }) ∷ []) ≡ take count (items_of 0 (front ++ x ∷ rest))
  items-cut front rest x count rising from within =
      let len = length-items 0 front (rising-left 0 front (x ∷ rest) rising) in
      let k = count - end_of 0 front in
      let all = replicate (x.end - end_of 0 front) x.item ++ items_of x.end rest in
      let there : length (items_of 0 front) + k ≡ count = omega (arith, len, from) in
      let many = length-replicate (x.end - end_of 0 front) x.item in
      let first : take k all ≡ replicate k x.item =
      take-append-le k (replicate (x.end - end_of 0 front) x.item) (items_of x.end rest) (omega (arith, many, within))
      ∙ take-replicate k (x.end - end_of 0 front) x.item (omega (arith, within)) in
      items-last front (record { item = x.item; end = count })
      ∙ ap (λ items. items_of 0 front ++ items) (sym first)
      ∙ sym (take-join (items_of 0 front) all k count there)
      ∙ ap (take count) (sym (items-join 0 front (x ∷ rest)))

  -- the runs before an item are not all
  pub within_of : (xs : List (Run T)) (at number : ℕ) → IsRising 0 xs → number < length (items_of 0 xs) → end_of 0 (take at xs) ≤ number → at ≤ length xs → at < length xs
  within_of xs at number rising below before within =
      elim (nat_lt at (length xs)) as (λ b. nat_lt at (length xs) ≡ b → at < length xs) [
        | true ↦ λ e. grind (arith, nat_tests)
        | false ↦ λ e.
            let all : take at xs ≡ xs = take_all at xs (grind (arith, nat_tests)) in
            let len = length-end xs rising in
            absurd (omega (arith, len, below, rw all at before))
      ] refl

  some_of : (xs : List (Run T)) → (length xs ≡ 0 → ⊥) → 0 < length xs
  some_of xs not_none = grind arith

  pub end-read : (xs : List (Run T)) (x : Run T) → (length xs ≡ 0 → ⊥) → x ≡ get_or xs (length xs - 1) x → (get_or xs (length xs - 1) x).end ≡ end_of 0 xs
  end-read xs x some is = ap (λ (run : Run T). run.end) (sym is) ∙ end-is xs x (some_of xs some) is

  pub count-read : (xs : List (Run T)) (x : Run T) → IsRising 0 xs → (length xs ≡ 0 → ⊥) → x ≡ get_or xs (length xs - 1) x →
      (get_or xs (length xs - 1) x).end ≡ length (items_of 0 xs)
  count-read xs x rising some is = end-read xs x some is ∙ sym (length-end xs rising)

  pub item-read : (xs : List (Run T)) (x : Run T) (at number : ℕ) (d : T) → IsRising 0 xs → at < length xs → x ≡ get_or xs at x → end_of 0 (take at xs) ≤ number →
      number < end_of 0 (take (at + 1) xs) → d ≡ x.item → d ≡ get_or (items_of 0 xs) number d
  item-read xs x at number d rising below is before end value =
      let split = at-run xs at x below is in
      let ends = end-at xs at x below is in
      value ∙ sym (ap (λ (runs : List (Run T)). get_or (items_of 0 runs) number d) split
      ∙ item-in (take at xs) (drop (at + 1) xs) x number d (subst (IsRising 0) split rising) before (rw ends at end))

  last-set : (xs : List (Run T)) (y : Run T) → 0 < length xs → set xs (length xs - 1) y ≡ take (length xs - 1) xs ++ y ∷ []
  last-set xs y some =
      let end : length xs ≤ suc (length xs - 1) = omega (arith, some) in
      set_split xs (length xs - 1) y (omega (arith, some)) ∙ ap (λ rest. take (length xs - 1) xs ++ y ∷ rest) (drop_all (suc (length xs - 1)) xs end)

  ends-above : (front : List (Run T)) (x : Run T) → IsRising 0 (front ++ x ∷ []) → end_of 0 front ≤ x.end
  ends-above front x rising = (rising-right 0 front (x ∷ []) rising).0

  pub longer-rising : (xs : List (Run T)) (x : Run T) (n many : ℕ) → IsRising 0 xs → 0 < length xs → x ≡ get_or xs (length xs - 1) x → n ≡ x.end + many →
      IsRising 0 (set xs (length xs - 1) (record { item = x.item; end = n }))
  longer-rising xs x n many rising some is next =
      let front = take (length xs - 1) xs in
      let split = subst (IsRising 0) (last-run xs x some is) rising in
      let above = ends-above front x split in
      rw (last-set xs (record { item = x.item; end = n }) some)
      (rising-join 0 front _ (rising-left 0 front (x ∷ []) split) (omega (arith, above, next), tt))

  pub longer-items : (xs : List (Run T)) (x : Run T) (n many : ℕ) (item : T) → IsRising 0 xs → 0 < length xs → x ≡ get_or xs (length xs - 1) x → n ≡ x.end + many →
      x.item ≡ item → items_of 0 (set xs (length xs - 1) (record { item = x.item; end = n })) ≡ items_of 0 xs ++ replicate many item
  longer-items xs x n many item rising some is next same =
      let front = take (length xs - 1) xs in
      let whole = last-run xs x some is in
      let above = ends-above front x (subst (IsRising 0) whole rising) in
      ap (items_of 0) (last-set xs (record { item = x.item; end = n }) some)
      ∙ items-longer front x n many above next
      ∙ ap (λ (runs : List (Run T)). items_of 0 runs ++ replicate many x.item) (sym whole)
      ∙ ap (λ (y : T). items_of 0 xs ++ replicate many y) same

  cut-set : (xs : List (Run T)) (at : ℕ) (y : Run T) → at < length xs → set (take (at + 1) xs) at y ≡ take at xs ++ y ∷ []
  cut-set xs at y below =
      let len = length-take-le (at + 1) xs (omega (arith, below)) in
      set_split (take (at + 1) xs) at y (omega (arith, len))
      ∙ ap (λ front. front ++ y ∷ drop (suc at) (take (at + 1) xs)) (take-take at (at + 1) xs (omega arith))
      ∙ ap (λ rest. take at xs ++ y ∷ rest) (drop_all (suc at) (take (at + 1) xs) (omega (arith, len)))

  cut-read : (xs : List (Run T)) (at : ℕ) (x : Run T) → x ≡ get_or (take (at + 1) xs) at x → x ≡ get_or xs at x
  cut-read xs at x is = is ∙ get_or-take (at + 1) xs at x (omega arith)

  pub cut-rising : (xs list : List (Run T)) (at count : ℕ) (x : Run T) → IsRising 0 xs → at < length xs → list ≡ take (at + 1) xs → x ≡ get_or list at x →
      (count ≡ 0 → ⊥) → end_of 0 (take at xs) ≤ count - 1 → IsRising 0 (set list at (record { item = x.item; end = count }))
  cut-rising xs list at count x rising below cut is some before =
      let split = subst (IsRising 0) (at-run xs at x below (cut-read xs at x (rw cut at is))) rising in
      rw (cut, cut-set xs at (record { item = x.item; end = count }) below)
      (rising-join 0 (take at xs) _ (rising-left 0 (take at xs) (x ∷ drop (at + 1) xs) split) (omega (arith, before), tt))

  pub cut-items : (xs list : List (Run T)) (at count : ℕ) (x : Run T) → IsRising 0 xs → at < length xs → list ≡ take (at + 1) xs → x ≡ get_or list at x →
      (count ≡ 0 → ⊥) → end_of 0 (take at xs) ≤ count - 1 → count - 1 < end_of 0 (take (at + 1) xs) →
      items_of 0 (set list at (record { item = x.item; end = count })) ≡ take count (items_of 0 xs)
  cut-items xs list at count x rising below cut is some before end =
      let read = cut-read xs at x (rw cut at is) in
      let whole = at-run xs at x below read in
      let split = subst (IsRising 0) whole rising in
      let ends = end-at xs at x below read in
      rw cut (ap (items_of 0) (cut-set xs at (record { item = x.item; end = count }) below)
      ∙ items-cut (take at xs) (drop (at + 1) xs) x count split (omega (arith, before)) (omega (arith, some, ends, end))
      ∙ ap (λ (runs : List (Run T)). take count (items_of 0 runs)) (sym whole))

  pub more-rising : (xs list : List (Run T)) (item : T) (n many : ℕ) → IsRising 0 xs → list ≡ xs ++ (record { item = item; end = n }) ∷ [] → n ≡ end_of 0 xs + many → IsRising 0 list
  more-rising xs list item n many rising is next = rw is (rising-join 0 xs _ rising (omega (arith, next), tt))

  pub more-items : (xs list : List (Run T)) (item : T) (n many : ℕ) → list ≡ xs ++ (record { item = item; end = n }) ∷ [] → n ≡ end_of 0 xs + many →
      items_of 0 list ≡ items_of 0 xs ++ replicate many item
  more-items xs list item n many is next = rw is (items-more xs item n many next)

  pub lengthened-rising : (xs : List (Run T)) (x : Run T) (last n many : ℕ) → IsRising 0 xs → 0 < length xs → last ≡ length xs - 1 → x ≡ get_or xs last x → n ≡ x.end + many →
      IsRising 0 (set xs last (record { item = x.item; end = n }))
  lengthened-rising xs x last n many rising some place is next = rw place (longer-rising xs x n many rising some (rw place at is) next)

  pub lengthened-items : (xs : List (Run T)) (x d : Run T) (last n many : ℕ) (item : T) → IsRising 0 xs → 0 < length xs → last ≡ length xs - 1 → x ≡ get_or xs last x →
      n ≡ x.end + many → (get_or xs last d).item ≡ item → items_of 0 (set xs last (record { item = x.item; end = n })) ≡ items_of 0 xs ++ replicate many item
  lengthened-items xs x d last n many item rising some place is next same =
      let there : x.item ≡ item = ap (λ (run : Run T). run.item) (is ∙ get_or_default xs last x d (omega (arith, some, place))) ∙ same in
      rw place (longer-items xs x n many item rising some (rw place at is) next there)

  -- the last run ends where the items do, of which there are few
  pub lengthened-fits : (xs : List (Run T)) (x : Run T) (last bound : ℕ) → IsRising 0 xs → 0 < length xs → last ≡ length xs - 1 → x ≡ get_or xs last x →
      (many : ℕ) → length (items_of 0 xs) + many < bound → x.end + many < bound
  lengthened-fits xs x last bound rising some place is many few =
      omega (arith, few, length-end xs rising, end-is xs x some (rw place at is))
