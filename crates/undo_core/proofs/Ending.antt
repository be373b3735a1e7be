-- Where changes end in a list of values: as values are added, and as the last change is taken off.
use Rattle.std.proofs.Common.{◌≡◌, ℕ, zero, suc, ◌+◌, ◌-◌, ◌<◌, ◌≤◌, Bool, true, false, ◌||◌, nat_eq, List, [], ◌∷◌, ◌++◌, length, drop, reverse, if◌then◌else◌, refl, sym, ◌∙◌, ap, subst, arith, length-append, append_assoc}
use Rattle.std.proofs.lemmas.Bool.Decides.{nat_tests}
use Rattle.std.proofs.lemmas.List.{reverse-append, length-reverse, length-drop, drop-drop}
use Rattle.undo_core.specs.Counts.{is_place, places_below, ArePlaces, open_in, counts_in, run_of, newest_part, is_ended, newest_place, AreOpen, AreClosed}
use Rattle.undo_core.proofs.LeadsLemmas.{reverse_cons}

not-same : (p n : ℕ) → p ≤ n → nat_eq p (suc n) ≡ false
not-same p n h = grind (arith, nat_tests)

-- a place of fewer values is not that of these
pub not-place : (n : ℕ) (ps : List ℕ) → ArePlaces n ps → is_place (suc n) ps ≡ false
not-place n [] h = refl
not-place n (p ∷ ps) h = not-same p n h.0

pub places-more : (n m : ℕ) (ps : List ℕ) → n ≤ m → ArePlaces n ps → ArePlaces m ps
places-more n m [] l h = tt
places-more n m (p ∷ ps) l h = (omega (arith, l, h.0), h.1, h.2)

below-step : (b : Bool) (n p : ℕ) (ps : List ℕ) → nat_eq p (suc n) ≡ b → ArePlaces (suc n) (p ∷ ps) → ArePlaces n (if b then ps else p ∷ ps)
below-step true n p ps e h = let same : p - 1 ≡ n = grind (arith, nat_tests, e) in subst (λ k. ArePlaces k ps) same h.2
below-step false n p ps e h = let less : p ≤ n = grind (arith, nat_tests, e, h.0) in (less, h.1, h.2)

-- the places of fewer values
pub places-below : (n : ℕ) (ps : List ℕ) → ArePlaces (suc n) ps → ArePlaces n (places_below (suc n) ps)
places-below n [] h = tt
places-below n (p ∷ ps) h = below-step (nat_eq p (suc n)) n p ps refl h

less-place : (n p : ℕ) (ps : List ℕ) → nat_eq p (suc n) ≡ false → ArePlaces (suc n) (p ∷ ps) → ArePlaces n (p ∷ ps)
less-place n p ps e h = below-step false n p ps e h

module _ {O : Type 0} (last : O → Bool) where
  -- a value that ends no change
  open-step : (t : Bool) (n m : ℕ) → t ≡ false → (if t then 0 else suc n) ≡ suc n
  open-step true n m e = absurd (cc)
  open-step false n m e = refl

  counts-step : (t : Bool) (one other : List ℕ) → t ≡ false → (if t then one else other) ≡ other
  counts-step true one other e = absurd (cc)
  counts-step false one other e = refl

  closed-step : (t : Bool) (one other : List ℕ) → t ≡ true → (if t then one else other) ≡ one
  closed-step true one other e = refl
  closed-step false one other e = absurd (cc)

  -- values that end in one that says the end of their change
  pub add-closed : (os us : List O) (ps : List ℕ) → AreClosed last os → ArePlaces (length us) ps →
      (counts_in last ps (reverse os ++ us) ≡ counts_in last ps us ++ (open_in last ps us + length os) ∷ []) × (open_in last ps (reverse os ++ us) ≡ 0)
  add-closed [] us ps closed placed = absurd closed
  add-closed (o ∷ []) us ps closed placed =
      let no = not-place (length us) ps placed in
      let same : places_below (suc (length us)) ps ≡ ps = below-none (suc (length us)) ps no in
      let one : suc (open_in last ps us) ≡ open_in last ps us + length (o ∷ []) = omega arith in
      (rw (no, closed, same) (ap (λ n. counts_in last ps us ++ n ∷ []) one), rw (no, closed) refl) where
        below-none : (n : ℕ) (ps : List ℕ) → is_place n ps ≡ false → places_below n ps ≡ ps
        below-none n [] e = refl
        below-none n (p ∷ ps) e = rw e refl
  add-closed (o ∷ w ∷ os) us ps closed placed =
      let no = not-place (length us) ps placed in
      let ih = add-closed (w ∷ os) (o ∷ us) ps closed.1 (places-more (length us) (suc (length us)) ps (omega arith) placed) in
      let list : reverse (o ∷ w ∷ os) ++ us ≡ reverse (w ∷ os) ++ o ∷ us =
      ap (λ (l : List O). l ++ us) (reverse_cons o (w ∷ os)) ∙ append_assoc (reverse (w ∷ os)) (o ∷ []) us in
      let opened : open_in last ps (o ∷ us) ≡ suc (open_in last ps us) = rw (no, closed.0) refl in
      let counted : counts_in last ps (o ∷ us) ≡ counts_in last ps us = rw (no, closed.0) refl in
      let many : open_in last ps (o ∷ us) + length (w ∷ os) ≡ open_in last ps us + length (o ∷ w ∷ os) = omega (arith, opened) in (
        ap (counts_in last ps) list ∙ ih.0 ∙ ap (λ (c : List ℕ). c ++ (open_in last ps (o ∷ us) + length (w ∷ os)) ∷ []) counted
            ∙ ap (λ n. counts_in last ps us ++ n ∷ []) many,
        ap (open_in last ps) list ∙ ih.1,
      )

  -- values of which none does
  pub add-open : (os us : List O) (ps : List ℕ) → AreOpen last os → ArePlaces (length us) ps →
      (counts_in last ps (reverse os ++ us) ≡ counts_in last ps us) × (open_in last ps (reverse os ++ us) ≡ open_in last ps us + length os)
  add-open [] us ps opened placed = (refl, omega arith)
  add-open (o ∷ os) us ps opened placed =
      let no = not-place (length us) ps placed in
      let ih = add-open os (o ∷ us) ps opened.1 (places-more (length us) (suc (length us)) ps (omega arith) placed) in
      let list : reverse (o ∷ os) ++ us ≡ reverse os ++ o ∷ us = ap (λ (l : List O). l ++ us) (reverse_cons o os) ∙ append_assoc (reverse os) (o ∷ []) us in
      let more : open_in last ps (o ∷ us) ≡ suc (open_in last ps us) = rw (no, opened.0) refl in
      let counted : counts_in last ps (o ∷ us) ≡ counts_in last ps us = rw (no, opened.0) refl in
      (ap (counts_in last ps) list ∙ ih.0 ∙ counted, ap (open_in last ps) list ∙ ih.1 ∙ omega (arith, more))

  some-open : (t : Bool) (n : ℕ) → 0 < (if t then 0 else n) → t ≡ false
  some-open true n h = absurd (omega (arith, h))
  some-open false n h = refl

  none-open : (t : Bool) (n : ℕ) → (if t then 0 else suc n) ≡ 0 → t ≡ true
  none-open true n h = refl
  none-open false n h = absurd (omega (arith, h))

  -- a place after them ends their change
  pub place-after : (us : List O) (ps : List ℕ) (n : ℕ) → n ≡ length us → 0 < open_in last ps us →
      (counts_in last (n ∷ ps) us ≡ counts_in last ps us ++ open_in last ps us ∷ []) × (open_in last (n ∷ ps) us ≡ 0)
  place-after [] ps n e some = absurd (omega (arith, some))
  place-after (v ∷ vs) ps n e some =
      let no = some-open (is_place (suc (length vs)) ps || last v) (suc (open_in last ps vs)) some in
      let here : nat_eq n (suc (length vs)) ≡ true = grind (arith, nat_tests, e) in
      (rw (here, no) refl, rw here refl)

  -- the newest value of values whose changes have ended is the last of one
  pub take-part : (v : O) (vs : List O) (ps : List ℕ) → open_in last ps (v ∷ vs) ≡ 0 →
      counts_in last ps (v ∷ vs) ≡ counts_in last (places_below (suc (length vs)) ps) vs ++ suc (open_in last (places_below (suc (length vs)) ps) vs) ∷ []
  take-part v vs ps ended = closed-step (is_place (suc (length vs)) ps || last v) _ _ (none-open (is_place (suc (length vs)) ps || last v) (open_in last ps vs) ended)

  left-place : (t u : Bool) (n : ℕ) → (t || u) ≡ false → t ≡ false
  left-place true u n e = absurd (cc)
  left-place false u n e = refl

  minus-none : (n : ℕ) → n - 0 ≡ n
  minus-none n = omega arith

  lower : (n : ℕ) (qs : List ℕ) → is_place (suc n) qs ≡ false → ArePlaces (suc n) qs → ArePlaces n qs
  lower n [] e h = tt
  lower n (q ∷ qs) e h = less-place n q qs e h

  -- what is left without those of no change that has ended
  abbrev IsLeft : List ℕ → List O → Type 0
  IsLeft ps us =
      (counts_in last ps (drop (open_in last ps us) us) ≡ counts_in last ps us) × (open_in last ps (drop (open_in last ps us) us) ≡ 0)
      × ArePlaces (length us - open_in last ps us) ps × (open_in last ps us ≤ length us)

  drop-step : (t : Bool) (v : O) (vs : List O) (ps : List ℕ) → (is_place (suc (length vs)) ps || last v) ≡ t → ArePlaces (suc (length vs)) ps →
      (ArePlaces (length vs) ps → IsLeft ps vs) → IsLeft ps (v ∷ vs)
  drop-step true v vs ps e placed next =
      let none : open_in last ps (v ∷ vs) ≡ 0 = rw e refl in
      (rw none refl, rw none none, rw none (subst (λ n. ArePlaces n ps) (sym (minus-none (suc (length vs)))) placed), omega (arith, none))
  drop-step false v vs ps e placed next =
      let more : open_in last ps (v ∷ vs) ≡ suc (open_in last ps vs) = rw e refl in
      let counted : counts_in last ps (v ∷ vs) ≡ counts_in last ps vs = rw e refl in
      let ih = next (lower (length vs) ps (left-place (is_place (suc (length vs)) ps) (last v) 0 e) placed) in
      let place : length vs - open_in last ps vs ≡ suc (length vs) - suc (open_in last ps vs) = omega arith in (
        rw more (ih.0 ∙ sym counted),
        rw more ih.1,
        rw more (subst (λ n. ArePlaces n ps) place ih.2),
        (let few = ih.3 in omega (arith, more, few)),
      )

  pub drop-open : (us : List O) (ps : List ℕ) → ArePlaces (length us) ps → IsLeft ps us
  drop-open [] ps placed = (refl, refl, placed, omega arith)
  drop-open (v ∷ vs) ps placed = drop-step (is_place (suc (length vs)) ps || last v) v vs ps refl placed (drop-open vs ps)

  run-empty : (n : ℕ) → 0 ≡ run_of last n []
  run-empty zero = refl
  run-empty (suc n) = refl

  open-step-run : (t : Bool) (v : O) (vs : List O) (p : ℕ) (ps : List ℕ) → nat_eq p (suc (length vs)) ≡ t → ArePlaces (suc (length vs)) (p ∷ ps) →
      (ArePlaces (length vs) (p ∷ ps) → open_in last (p ∷ ps) vs ≡ run_of last (length vs - p) vs) →
      open_in last (p ∷ ps) (v ∷ vs) ≡ run_of last (suc (length vs) - p) (v ∷ vs)
  open-step-run true v vs p ps e placed next =
      let none : suc (length vs) - p ≡ 0 = grind (arith, nat_tests, e) in
      rw (e, none) refl
  open-step-run false v vs p ps e placed next =
      let lowered = less-place (length vs) p ps e placed in
      let less : p ≤ length vs = lowered.0 in
      let more : suc (length vs) - p ≡ suc (length vs - p) = omega (arith, less) in
      rw (e, more) (ap (λ n. if last v then 0 else suc n) (next lowered))

  -- they are read up to the newest place
  pub open-run : (us : List O) (ps : List ℕ) → ArePlaces (length us) ps → open_in last ps us ≡ run_of last (length us - newest_place ps) us
  open-run [] ps placed = run-empty (0 - newest_place ps)
  open-run (v ∷ vs) [] placed = ap (λ n. if last v then 0 else suc n) (open-run vs [] tt ∙ ap (λ n. run_of last n vs) (minus-none (length vs)))
      ∙ ap (λ n. run_of last n (v ∷ vs)) (sym (minus-none (suc (length vs))))
  open-run (v ∷ vs) (p ∷ ps) placed = open-step-run (nat_eq p (suc (length vs))) v vs p ps refl placed (open-run vs (p ∷ ps))

  -- the next value to be read ends a change, or it is one more, if there is one
  pub run_nothing : (front : List O) → front ≡ [] → (most : ℕ) → run_of last most (reverse front) ≡ 0
  run_nothing front is most = ap (λ (os : List O). run_of last most (reverse os)) is ∙ sym (run-empty most)

  pub run_ended : (front rest : List O) (v : O) → front ≡ rest ++ v ∷ [] → last v ≡ true → (most : ℕ) → run_of last most (reverse front) ≡ 0
  run_ended front rest v is ends zero = refl
  run_ended front rest v is ends (suc n) =
      ap (λ (os : List O). run_of last (suc n) os) (ap reverse is ∙ reverse-append rest (v ∷ [])) ∙ rw ends refl

  pub run_open : (front rest : List O) (v : O) → front ≡ rest ++ v ∷ [] → last v ≡ false → (most : ℕ) →
      run_of last (suc most) (reverse front) ≡ suc (run_of last most (reverse rest))
  run_open front rest v is ends n =
      ap (λ (os : List O). run_of last (suc n) os) (ap reverse is ∙ reverse-append rest (v ∷ [])) ∙ rw ends refl

  pub run-stops : (most left n : ℕ) (front : List O) → n ≡ run_of last left (reverse front) + (most - left) →
      ((m : ℕ) → run_of last m (reverse front) ≡ 0) → most - left ≡ n
  run-stops most left n front run ends = let none = ends left in omega (arith, run, none)

  pub run-on : (most left n : ℕ) (front rest : List O) → 0 < left → left ≤ most → n ≡ run_of last left (reverse front) + (most - left) →
      ((m : ℕ) → run_of last (suc m) (reverse front) ≡ suc (run_of last m (reverse rest))) →
      n ≡ run_of last (left - 1) (reverse rest) + (most - (left - 1))
  run-on most left n front rest some within run goes =
      let one : left ≡ suc (left - 1) = omega (arith, some) in
      let next = ap (λ m. run_of last m (reverse front)) one ∙ goes (left - 1) in
      omega (arith, run, next, some, within)

  -- the values of the last change, read up to the newest place
  pub part-read : (all rest : List O) (v : O) (ps : List ℕ) (count n m : ℕ) → count ≡ length all → all ≡ rest ++ v ∷ [] → ArePlaces (count - 1) ps →
      m ≡ newest_place ps → n ≡ run_of last (count - 1 - m) (reverse rest) → n + 1 ≡ open_in last ps (drop 1 (reverse all)) + 1
  part-read all rest v ps count n m size is placed place run =
      let backwards : reverse all ≡ v ∷ reverse rest = ap reverse is ∙ reverse-append rest (v ∷ []) in
      let many : count - 1 ≡ length (reverse rest) = omega (arith, size, ap length is, length-append rest (v ∷ []), length-reverse rest) in
      let opened = open-run (reverse rest) ps (subst (λ k. ArePlaces k ps) many placed) in
      let same : count - 1 - m ≡ length (reverse rest) - newest_place ps = omega (arith, many, place) in
      ap (λ k. k + 1) (run ∙ ap (λ k. run_of last k (reverse rest)) same ∙ sym opened ∙ ap (λ (os : List O). open_in last ps (drop 1 os)) (sym backwards))

  fewer-step : (t : Bool) (one other : List ℕ) (n : ℕ) → length one ≤ n → length other ≤ n → length (if t then one else other) ≤ n
  fewer-step true one other n h g = h
  fewer-step false one other n h g = g

  -- each change has a value
  pub fewer : (ps : List ℕ) (us : List O) → length (counts_in last ps us) ≤ length us
  fewer ps [] = omega arith
  fewer ps (v ∷ vs) =
      let qs = places_below (suc (length vs)) ps in
      let one = fewer qs vs in
      let other = fewer ps vs in
      let all : length (counts_in last ps (v ∷ vs)) ≤ suc (length vs) =
      fewer-step (is_place (suc (length vs)) ps || last v) (counts_in last qs vs ++ suc (open_in last qs vs) ∷ []) (counts_in last ps vs) (suc (length vs))
      (omega (arith, one, length-append (counts_in last qs vs) (suc (open_in last qs vs) ∷ []))) (omega (arith, other)) in
      omega (arith, all)

  more-step : (t : Bool) (j n k : ℕ) → suc j ≤ (if t then 0 else suc n) → (j ≤ n → n ≡ j + k) → (if t then 0 else suc n) ≡ suc j + k
  more-step true j n k h f = absurd (omega (arith, h))
  more-step false j n k h f = let is = f (omega (arith, h)) in omega (arith, is)

  -- where the run is longer than so many values, the rest of it is that of those after them
  run-more : (j m : ℕ) (vs : List O) → j ≤ run_of last m vs → run_of last m vs ≡ j + run_of last (m - j) (drop j vs)
  run-more zero m vs h = ap (λ k. run_of last k vs) (sym (minus-none m)) ∙ omega arith
  run-more (suc j) zero vs h = absurd (omega (arith, h))
  run-more (suc j) (suc m) [] h = absurd (omega (arith, h))
  run-more (suc j) (suc m) (v ∷ vs) h =
      more-step (last v) j (run_of last m vs) (run_of last (m - j) (drop j vs)) h (run-more j m vs) ∙ ap (λ k. suc j + run_of last k (drop j vs)) (omega arith)

  within-step : (t : Bool) (n k : ℕ) → n ≤ k → (if t then 0 else suc n) ≤ suc k
  within-step true n k h = omega arith
  within-step false n k h = omega (arith, h)

  run-within : (m : ℕ) (vs : List O) → run_of last m vs ≤ m
  run-within zero vs = omega arith
  run-within (suc m) [] = omega arith
  run-within (suc m) (v ∷ vs) = within-step (last v) (run_of last m vs) m (run-within m vs)

  -- the rest of the last part, where so many values of it are taken off
  part-rest : (most many : ℕ) (us xs : List O) → 0 < many → many ≤ newest_part last most us → xs ≡ drop many us →
      newest_part last most us ≡ many + run_of last (most - many) xs
  part-rest most many us xs some opened is =
      let run = run-more (many - 1) (most - 1) (drop 1 us) (omega (arith, opened, some)) in
      let rest : drop (many - 1) (drop 1 us) ≡ xs = drop-drop (many - 1) 1 us ∙ ap (λ k. drop k us) (omega (arith, some)) ∙ sym is in
      let left : most - 1 - (many - 1) ≡ most - many = omega (arith, some) in
      let all : run_of last (most - 1) (drop 1 us) ≡ (many - 1) + run_of last (most - many) xs =
      run ∙ ap (λ k. (many - 1) + run_of last k (drop (many - 1) (drop 1 us))) left ∙ ap (λ (os : List O). (many - 1) + run_of last (most - many) os) rest in
      omega (arith, all, some)

  run-first : (n : ℕ) (xs : List O) → 0 < n → is_ended last xs ≡ false → run_of last n xs ≡ newest_part last n xs
  run-first n [] some opened = absurd (cc)
  run-first zero (v ∷ vs) some opened = absurd (omega (arith, some))
  run-first (suc n) (v ∷ vs) some opened =
      let one : n ≡ suc n - 1 = omega arith in
      let same : run_of last n vs ≡ run_of last (suc n - 1) vs = ap (λ k. run_of last k vs) one in
      rw opened (omega (arith, same))

  ended-step : (t : Bool) (n : ℕ) → t ≡ true → (if t then 0 else suc n) ≡ 0
  ended-step true n e = refl
  ended-step false n e = absurd (cc)

  run-last : (n : ℕ) (xs : List O) → is_ended last xs ≡ true → run_of last n xs ≡ 0
  run-last zero xs e = refl
  run-last (suc n) [] e = refl
  run-last (suc n) (v ∷ vs) e = ended-step (last v) (run_of last n vs) e

  -- values are taken off up to one that ends a change
  pub part-on : (most many k : ℕ) (us xs : List O) → 0 < many → many < most → many ≤ newest_part last most us → xs ≡ drop many us →
      is_ended last xs ≡ false → k ≤ newest_part last (most - many) xs → many + k ≤ newest_part last most us
  part-on most many k us xs some below opened is goes more =
      let rest = part-rest most many us xs some opened is in
      let first = run-first (most - many) xs (omega (arith, below)) goes in
      omega (arith, rest, first, more)

  pub part-ended : (most many : ℕ) (us xs : List O) → 0 < many → many ≤ newest_part last most us → xs ≡ drop many us → is_ended last xs ≡ true →
      many ≡ newest_part last most us
  part-ended most many us xs some opened is ends =
      let rest = part-rest most many us xs some opened is in
      let none = run-last (most - many) xs ends in
      omega (arith, rest, none)

  -- or all that there are
  pub part-all : (most many : ℕ) (us : List O) → 0 < many → many ≤ newest_part last most us → most ≤ many → many ≡ newest_part last most us
  part-all most many us some opened all =
      let few = run-within (most - 1) (drop 1 us) in
      omega (arith, few, opened, all, some)

  -- the newest part of the values above the newest place is that of no change that has ended
  pub part-open : (us : List O) (ps : List ℕ) (most n : ℕ) → 0 < length us → ArePlaces (length us - 1) ps → most ≡ length us - newest_place ps →
      n ≡ newest_part last most us → n ≡ open_in last ps (drop 1 us) + 1
  part-open us ps most n some placed top is =
      let len = length-drop 1 us in
      let run = open-run (drop 1 us) ps (subst (λ k. ArePlaces k ps) (sym len) placed) in
      let same : length (drop 1 us) - newest_place ps ≡ most - 1 = omega (arith, len, top) in
      is ∙ ap (λ k. k + 1) (sym (run ∙ ap (λ k. run_of last k (drop 1 us)) same))

  -- there are values above it
  pub place-below : (n : ℕ) (ps : List ℕ) → ArePlaces n ps → newest_place ps ≤ n
  place-below n [] h = omega arith
  place-below n (p ∷ ps) h = h.0
