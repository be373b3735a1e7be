-- The values of a journal stay parted as a change is done and as the last one is taken off.
use Rattle.std.proofs.Common.{◌≡◌, ℕ, suc, ◌+◌, ◌-◌, ◌<◌, ◌≤◌, Bool, true, false, List, [], ◌∷◌, ◌++◌, length, drop, take, reverse, refl, sym, ◌∙◌, ap, subst, arith, length-append}
use Rattle.std.proofs.lemmas.List.{reverse-append, length-reverse, take-append-drop, length-take-le, length-drop}
use Rattle.std.proofs.Math.Seq.{drop-append_seam}
use Rattle.undo_core.specs.Counts.{places_below, ArePlaces, open_in, counts_in, IsPart, places_after}
use Rattle.undo_core.specs.Leads.{IsParted}
use Rattle.undo_core.proofs.Ending.{add-closed, add-open, place-after, take-part, drop-open, places-below, places-more}

module _ {O : Type 0} {last : O → Bool} {kept : List O} {places : List ℕ} {done : ℕ} (parted : IsParted last kept places done) where
  abbrev us : List O
  us = reverse kept

  abbrev ps : List ℕ
  ps = reverse places

  abbrev counts : List ℕ
  counts = counts_in last ps us

  -- a change is done, and its values end there
  pub parted_go : (b : Bool) (os kept_now : List O) (places_now : List ℕ) (done_now : ℕ) → IsPart last b os → kept_now ≡ kept ++ os →
      places_now ≡ places_after b (length kept_now) places → done_now ≡ done + 1 →
      IsParted last kept_now places_now done_now × (counts_in last (reverse places_now) (reverse kept_now) ≡ counts ++ length os ∷ [])
  parted_go true os kept_now places_now done_now part is noted more =
      let placed : ArePlaces (length us) ps = subst (λ n. ArePlaces n ps) (sym (length-reverse kept)) parted.placed in
      let added = add-closed last os us ps part placed in
      let values : reverse kept_now ≡ reverse os ++ us = ap reverse is ∙ reverse-append kept os in
      let count : open_in last ps us + length os ≡ length os = omega (arith, parted.ended) in
      let all : counts_in last ps (reverse os ++ us) ≡ counts ++ length os ∷ [] = added.0 ∙ ap (λ n. counts ++ n ∷ []) count in
      let noting : reverse places_now ≡ ps = ap reverse noted in
      let counted : done_now ≡ length (counts_in last ps (reverse os ++ us)) =
      omega (arith, more, parted.counted, ap length all, length-append counts (length os ∷ [])) in
      let fits : ArePlaces (length kept_now) ps = places-more (length kept) (length kept_now) ps (omega (arith, ap length is, length-append kept os)) parted.placed in
      (record { counted = rw (noting, values) counted; placed = rw noting fits; ended = rw (noting, values) added.1 }, rw (noting, values) all)
  parted_go false os kept_now places_now done_now part is noted more =
      let placed : ArePlaces (length us) ps = subst (λ n. ArePlaces n ps) (sym (length-reverse kept)) parted.placed in
      let ws = reverse os ++ us in
      let added = add-open last os us ps part.1 placed in
      let values : reverse kept_now ≡ ws = ap reverse is ∙ reverse-append kept os in
      let many : length kept_now ≡ length ws = sym (length-reverse kept_now) ∙ ap length values in
      let opened : open_in last ps ws ≡ length os = omega (arith, added.1, parted.ended) in
      let noting : reverse places_now ≡ length ws ∷ ps = ap reverse noted ∙ reverse-append places (length kept_now ∷ []) ∙ ap (λ (n : ℕ). n ∷ ps) many in
      let ends = place-after last ws ps (length ws) refl (omega (arith, opened, part.0)) in
      let all : counts_in last (length ws ∷ ps) ws ≡ counts ++ length os ∷ [] =
      ends.0 ∙ ap (λ (c : List ℕ). c ++ open_in last ps ws ∷ []) added.0 ∙ ap (λ n. counts ++ n ∷ []) opened in
      let total = ap length is ∙ length-append kept os in
      let counted : done_now ≡ length (counts_in last (length ws ∷ ps) ws) =
      omega (arith, more, parted.counted, ap length all, length-append counts (length os ∷ [])) in
      let some = part.0 in
      let fits : ArePlaces (length kept_now) (length ws ∷ ps) =
      (omega (arith, many), omega (arith, many, total, some), places-more (length kept) (length ws - 1) ps (omega (arith, many, total, some)) parted.placed) in
      (record { counted = rw (noting, values) counted; placed = rw noting fits; ended = rw (noting, values) ends.1 }, rw (noting, values) all)

  -- there is a value where there is a change
  pub parted_some : 0 < done → 0 < length kept
  parted_some some = have us refl where
    have : (xs : List O) → us ≡ xs → 0 < length kept
    have [] e = absurd (let none : length counts ≡ 0 = ap (λ (xs : List O). length (counts_in last ps xs)) e in omega (arith, some, parted.counted, none))
    have (x ∷ xs) e = let many = ap length e in let len = length-reverse kept in omega (arith, many, len)

  -- the places before its own
  pub parted_places : (places_now : List ℕ) → 0 < done → reverse places_now ≡ places_below (length kept) ps → ArePlaces (length kept - 1) (reverse places_now)
  parted_places places_now some is =
      let one : suc (length kept - 1) ≡ length kept = omega (arith, parted_some some) in
      rw is (subst (λ n. ArePlaces (length kept - 1) (places_below n ps)) one
      (places-below (length kept - 1) ps (subst (λ n. ArePlaces n ps) (sym one) parted.placed)))

  -- the last change is taken off
  pub parted_back : (kept_now : List O) (places_now : List ℕ) (done_now n : ℕ) → 0 < done → reverse places_now ≡ places_below (length kept) ps →
      n ≡ open_in last (reverse places_now) (drop 1 us) + 1 → kept_now ≡ take (length kept - n) kept → done_now + 1 ≡ done →
      IsParted last kept_now places_now done_now × (counts ≡ counts_in last (reverse places_now) (reverse kept_now) ++ n ∷ []) × (n ≤ length kept)
  parted_back kept_now places_now done_now n some is count cut fewer = have us refl where
    have : (xs : List O) → us ≡ xs →
        IsParted last kept_now places_now done_now × (counts ≡ counts_in last (reverse places_now) (reverse kept_now) ++ n ∷ []) × (n ≤ length kept)
    have [] e = absurd (let none : length counts ≡ 0 = ap (λ (xs : List O). length (counts_in last ps xs)) e in omega (arith, some, parted.counted, none))
    have (v ∷ vs) e =
        let qs = reverse places_now in
        let len : length kept ≡ suc (length vs) = sym (length-reverse kept) ∙ ap length e in
        let below : qs ≡ places_below (suc (length vs)) ps = is ∙ ap (λ k. places_below k ps) len in
        let here : n ≡ suc (open_in last qs vs) = count ∙ ap (λ (xs : List O). open_in last qs (drop 1 xs) + 1) e ∙ omega arith in
        let placed : ArePlaces (length vs) qs = subst (λ k. ArePlaces k qs) (omega (arith, len)) (parted_places places_now some is) in
        let left = drop-open last vs qs placed in
        let ended : open_in last ps (v ∷ vs) ≡ 0 = subst (λ (xs : List O). open_in last ps xs ≡ 0) e parted.ended in
        let taken = take-part last v vs ps ended in
        let few = left.3 in
        let within : n ≤ length kept = omega (arith, here, len, few) in
        let k = length kept - n in
        let cut_is : us ≡ reverse (drop k kept) ++ reverse (take k kept) =
        ap reverse (sym (take-append-drop k kept)) ∙ reverse-append (take k kept) (drop k kept) in
        let many : length (reverse (drop k kept)) ≡ n = length-reverse (drop k kept) ∙ length-drop k kept ∙ omega (arith, within) in
        let rest : reverse kept_now ≡ drop (open_in last qs vs) vs =
        ap reverse cut ∙ sym (drop-append_seam (reverse (drop k kept)) (reverse (take k kept))) ∙ ap (λ m. drop m (reverse (drop k kept) ++ reverse (take k kept))) (many ∙ here)
        ∙ ap (drop (suc (open_in last qs vs))) (sym cut_is ∙ e) in
        let before : counts_in last qs (reverse kept_now) ≡ counts_in last qs vs = ap (counts_in last qs) rest ∙ left.0 in
        let all : counts ≡ counts_in last qs (reverse kept_now) ++ n ∷ [] =
        ap (counts_in last ps) e ∙ taken ∙ ap (λ (rs : List ℕ). counts_in last rs vs ++ suc (open_in last rs vs) ∷ []) (sym below)
        ∙ ap (λ (c : List ℕ). c ++ suc (open_in last qs vs) ∷ []) (sym before) ∙ ap (λ m. counts_in last qs (reverse kept_now) ++ m ∷ []) (sym here) in
        let size : length kept_now ≡ length vs - open_in last qs vs = ap length cut ∙ length-take-le k kept (omega arith) ∙ omega (arith, here, len, within) in (
          record {
            counted = omega (arith, fewer, parted.counted, ap length all, length-append (counts_in last qs (reverse kept_now)) (n ∷ []));
            placed = subst (λ m. ArePlaces m qs) (sym size) left.2;
            ended = ap (open_in last qs) rest ∙ left.1;
          },
          all,
          within,
        )
