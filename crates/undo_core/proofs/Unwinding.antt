-- The values that are kept lead back from the state after any of the changes done to the one before it.
use Rattle.std.proofs.Common.{◌≡◌, ℕ, zero, suc, nat_lt, true, false, ◌+◌, ◌-◌, ◌<◌, ◌≤◌, List, [], ◌∷◌, ◌++◌, length, take, drop, get_or, Option, Some, Result, refl, sym, ◌∙◌, ap, subst, arith, length-append}
use Rattle.std.proofs.lemmas.Bool.Decides.{nat_tests}
use Rattle.std.proofs.lemmas.List.{length-take-le, length-drop, take_all, take_more, take-take, drop-take, drop-drop, get_or-take, get_or-drop, get_or_append_left, get_or_at}
use Rattle.undo_core.specs.Counts.{parts_of, total}
use Rattle.undo_core.specs.Replay.{replay, unwound}
use Rattle.undo_core.specs.Leads.{IsSound, TakeBack, AreOf}
use Rattle.undo_core.proofs.CountLemmas.{total-last}
use Rattle.undo_core.proofs.Sound.{sound_replay, sound_total, last_of, back_sound}

length-parts : {O : Type 0} (ns : List ℕ) (kept : List O) → length (parts_of ns kept) ≡ length ns
length-parts [] kept = refl
length-parts (n ∷ ns) kept = let rest = length-parts ns (drop n kept) in omega (arith, rest)

-- the last part, and those before it
parts-last : {O : Type 0} (ns : List ℕ) (n : ℕ) (kept : List O) →
    parts_of (ns ++ n ∷ []) kept ≡ parts_of ns (take (total ns) kept) ++ take n (drop (total ns) kept) ∷ []
parts-last [] n kept = refl
parts-last {O} (m ∷ ns) n kept =
    let front = take (m + total ns) kept in
    let first : take m front ≡ take m kept = take-take m (m + total ns) kept (omega arith) in
    let rest : drop m front ≡ take (total ns) (drop m kept) = drop-take m (total ns) kept in
    let last : drop (total ns) (drop m kept) ≡ drop (m + total ns) kept = drop-drop (total ns) m kept in
    ap (λ (parts : List (List O)). take m kept ∷ parts) (parts-last ns n (drop m kept))
    ∙ ap (λ (f : List O). f ∷ (parts_of ns (take (total ns) (drop m kept)) ++ take n (drop (total ns) (drop m kept)) ∷ [])) (sym first)
    ∙ ap (λ (r : List O). take m front ∷ (parts_of ns r ++ take n (drop (total ns) (drop m kept)) ∷ [])) (sym rest)
    ∙ ap (λ (l : List O). take m front ∷ (parts_of ns (drop m front) ++ take n l ∷ [])) last

-- the same, where all values are counted
parts-of-last : {O : Type 0} (ns : List ℕ) (n : ℕ) (kept : List O) → total (ns ++ n ∷ []) ≡ length kept →
    parts_of (ns ++ n ∷ []) kept ≡ parts_of ns (take (length kept - n) kept) ++ drop (length kept - n) kept ∷ []
parts-of-last {O} ns n kept whole =
    let all = total-last ns n in
    let front : total ns ≡ length kept - n = omega (arith, whole, all) in
    let many : n ≡ length (drop (length kept - n) kept) = omega (arith, whole, all, length-drop (length kept - n) kept) in
    let last : take n (drop (length kept - n) kept) ≡ drop (length kept - n) kept = take_all n (drop (length kept - n) kept) (omega (arith, many)) in
    parts-last ns n kept ∙ ap (λ k. parts_of ns (take k kept) ++ take n (drop k kept) ∷ []) front
    ∙ ap (λ (values : List O). parts_of ns (take (length kept - n) kept) ++ values ∷ []) last

pub part-before : {O : Type 0} (ns : List ℕ) (n k : ℕ) (kept : List O) → total (ns ++ n ∷ []) ≡ length kept → k < length ns →
    get_or (parts_of (ns ++ n ∷ []) kept) k [] ≡ get_or (parts_of ns (take (length kept - n) kept)) k []
part-before {O} ns n k kept whole below =
    let many = length-parts ns (take (length kept - n) kept) in
    ap (λ (parts : List (List O)). get_or parts k []) (parts-of-last ns n kept whole)
    ∙ get_or_append_left (parts_of ns (take (length kept - n) kept)) (drop (length kept - n) kept ∷ []) [] k (omega (arith, many, below))

pub part-last : {O : Type 0} (ns : List ℕ) (n : ℕ) (kept : List O) → total (ns ++ n ∷ []) ≡ length kept →
    get_or (parts_of (ns ++ n ∷ []) kept) (length ns) [] ≡ drop (length kept - n) kept
part-last {O} ns n kept whole =
    ap (λ (parts : List (List O)). get_or parts (length ns) []) (parts-of-last ns n kept whole)
    ∙ get_or_at (parts_of ns (take (length kept - n) kept)) (drop (length kept - n) kept) [] [] (length ns) (length-parts ns (take (length kept - n) kept))

-- the change of a number, among more changes or fewer
are_of-among : {S C O F : Type 0} (gives : S → C → Result S F) (keeps : S → C → List O) (put : S → O → Option S) (first : S) (changes : List C) (m n k : ℕ)
    (values : List O) → k < m → m ≤ n → AreOf gives keeps put first (take m changes) k values → AreOf gives keeps put first (take n changes) k values
are_of-among {S} {C} gives keeps put first changes m n k values below within (back, were) =
    let up : take (k + 1) (take m changes) ≡ take (k + 1) (take n changes) =
    take-take (k + 1) m changes (omega (arith, below)) ∙ sym (take-take (k + 1) n changes (omega (arith, below, within))) in
    let to : take k (take m changes) ≡ take k (take n changes) = take-take k m changes (omega (arith, below)) ∙ sym (take-take k n changes (omega (arith, below, within))) in
    let item : (c : C) → get_or (take n changes) k c ≡ get_or (take m changes) k c =
    λ c. get_or-take n changes k c (omega (arith, below, within)) ∙ sym (get_or-take m changes k c below) in (
      λ after came.
          let led = back after (ap (replay gives first) up ∙ came) in
          (led.0, led.1, ap (replay gives first) (sym to) ∙ led.2),
      λ s c came is. were s c (ap (replay gives first) to ∙ came) (is ∙ item c),
    )

module _ {S C O F : Type 0} {gives : S → C → Result S F} {keeps : S → C → List O} {put : S → O → Option S} {changes : List C} where
  -- the values of the last change
  last_part : (state : S) (kept : List O) (rest : List ℕ) (count : ℕ) → IsSound gives keeps put state kept changes (rest ++ count ∷ []) →
      AreOf gives keeps put (unwound put kept state) (take (length (rest ++ count ∷ [])) changes) (length rest) (drop (length kept - count) kept)
  last_part state kept rest count sound =
      let many : length (rest ++ count ∷ []) ≡ length rest + 1 = length-append rest (count ∷ []) in
      let l = last_of sound rest count refl in
      let b = back_sound sound rest count refl l.0 (take (length kept - count) kept) l.2.fits refl in
      let all : take (length rest + 1) (take (length (rest ++ count ∷ [])) changes) ≡ take (length (rest ++ count ∷ [])) changes =
      take-take (length rest + 1) (length (rest ++ count ∷ [])) changes (omega (arith, many)) ∙ ap (λ n. take n changes) (sym many) in
      let front : take (length rest) (take (length (rest ++ count ∷ [])) changes) ≡ take (length rest) changes =
      take-take (length rest) (length (rest ++ count ∷ [])) changes (omega (arith, many)) in
      let before : replay gives (unwound put kept state) (take (length rest) (take (length (rest ++ count ∷ [])) changes)) ≡ Some l.0 =
      rw front (rw b.1 at (sound_replay b.0)) in
      let place : length rest ≡ length rest + 0 = omega arith in
      let item : (c : C) → get_or (take (length (rest ++ count ∷ [])) changes) (length rest) c ≡ l.1 =
      λ c. get_or-take (length (rest ++ count ∷ [])) changes (length rest) c (omega (arith, many))
      ∙ ap (λ n. get_or changes n c) place ∙ sym (get_or-drop (length rest) changes 0 c) ∙ ap (λ (cs : List C). get_or cs 0 c) l.2.next in (
        λ after came.
            let same : state ≡ after = cc (sound_replay sound, rw all at came) in
            (l.0, rw (← same) l.2.fits, before),
        λ s c came is.
            let same : l.0 ≡ s = cc (before, came) in
            let done : l.1 ≡ c = sym (is ∙ item c) in
            l.2.newest.values ∙ ap (λ t. keeps t l.1) same ∙ ap (keeps s) done,
      )

  each_part : (m : ℕ) (state : S) (kept : List O) (counts : List ℕ) → m ≡ length counts → IsSound gives keeps put state kept changes counts →
      (k : ℕ) → k < length counts → AreOf gives keeps put (unwound put kept state) (take (length counts) changes) k (get_or (parts_of counts kept) k [])
  each_part zero state kept counts len sound k below = absurd (omega (arith, len, below))
  each_part (suc m) state kept counts len sound k below =
      let rest = take m counts in
      let count = get_or counts m 0 in
      let ends : counts ≡ rest ++ count ∷ [] = sym (take_all (m + 1) counts (omega (arith, len))) ∙ take_more counts m 0 (omega (arith, len)) in
      let many : length rest ≡ m = length-take-le m counts (omega (arith, len)) in
      let s = subst (IsSound gives keeps put state kept changes) ends sound in
      let whole = sound_total s in
      let more : length (rest ++ count ∷ []) ≡ length rest + 1 = length-append rest (count ∷ []) in
      let l = last_of s rest count refl in
      let b = back_sound s rest count refl l.0 (take (length kept - count) kept) l.2.fits refl in
      subst (λ (ns : List ℕ). AreOf gives keeps put (unwound put kept state) (take (length ns) changes) k (get_or (parts_of ns kept) k [])) (sym ends)
      (elim (nat_lt k (length rest)) as (λ t. nat_lt k (length rest) ≡ t →
      AreOf gives keeps put (unwound put kept state) (take (length (rest ++ count ∷ [])) changes) k (get_or (parts_of (rest ++ count ∷ []) kept) k [])) [
        | true ↦ λ e.
            let before : k < length rest = grind (arith, nat_tests) in
            let older = each_part m l.0 (take (length kept - count) kept) rest (sym many) b.0 k before in
            rw (part-before rest count k kept whole before)
            (are_of-among gives keeps put (unwound put kept state) changes (length rest) (length (rest ++ count ∷ [])) k
            (get_or (parts_of rest (take (length kept - count) kept)) k []) before (omega (arith, more)) (rw b.1 at older))
        | false ↦ λ e.
            let last : k ≡ length rest = grind (arith, nat_tests) in
            rw (last, part-last rest count kept whole) (last_part state kept rest count s)
      ] refl)

  -- what a journal keeps takes its changes back
  pub take_back : (state : S) (kept : List O) (counts : List ℕ) (done : ℕ) → done ≡ length counts → IsSound gives keeps put state kept changes counts →
      TakeBack gives keeps put (unwound put kept state) (take done changes) kept counts done
  take_back state kept counts done counted sound = record {
    counted = counted;
    whole = sound_total sound;
    parts = rw counted (each_part (length counts) state kept counts refl sound);
  }

module _ {S C O F : Type 0} {gives : S → C → Result S F} {keeps : S → C → List O} {put : S → O → Option S} {changes : List C} {first : S} {kept : List O} {counts : List ℕ} {left : ℕ} where
  -- the last part is read, and the others are left
  pub take_back-rest : (before : List O) (rest : List ℕ) (less count : ℕ) → TakeBack gives keeps put first changes kept counts left →
      counts ≡ rest ++ count ∷ [] → less + 1 ≡ left → before ≡ take (length kept - count) kept → TakeBack gives keeps put first changes before rest less
  take_back-rest before rest less count back ends one is =
      let whole = rw ends at back.whole in
      let more = ap length ends ∙ length-append rest (count ∷ []) in
      let front = total-last rest count in
      let len = length-take-le (length kept - count) kept (omega arith) in
      rw is record {
        counted = omega (arith, one, back.counted, more);
        whole = omega (arith, whole, front, len);
        parts = λ k below.
            let there = back.parts k (omega (arith, below, more)) in
            let value : get_or (parts_of counts kept) k [] ≡ get_or (parts_of rest (take (length kept - count) kept)) k [] =
            ap (λ (l : List ℕ). get_or (parts_of l kept) k []) ends ∙ part-before rest count k kept whole below in
            subst (AreOf gives keeps put first changes k) value there;
      }

  pub take_back-last : (values : List O) (rest : List ℕ) (less count : ℕ) → TakeBack gives keeps put first changes kept counts left →
      counts ≡ rest ++ count ∷ [] → less + 1 ≡ left → values ≡ drop (length kept - count) kept → AreOf gives keeps put first changes less values
  take_back-last values rest less count back ends one is =
      let whole = rw ends at back.whole in
      let more = ap length ends ∙ length-append rest (count ∷ []) in
      let there = back.parts less (omega (arith, more, one, back.counted)) in
      let place : less ≡ length rest = omega (arith, more, one, back.counted) in
      let value : get_or (parts_of counts kept) less [] ≡ drop (length kept - count) kept =
      ap (λ (l : List ℕ). get_or (parts_of l kept) less []) ends ∙ ap (λ k. get_or (parts_of (rest ++ count ∷ []) kept) k []) place
      ∙ part-last rest count kept whole in
      subst (AreOf gives keeps put first changes less) (value ∙ sym is) there

-- all of a list, by the number of its last item
pub whole : {A : Type 0} (xs : List A) (n : ℕ) → n + 1 ≡ length xs → take (n + 1) xs ≡ xs
whole xs n last = take_all (n + 1) xs (omega (arith, last))
