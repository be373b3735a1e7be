-- What a journal stores is sound as a change is done, taken back and done again.
use Rattle.std.proofs.Common.{◌≡◌, ℕ, ◌+◌, ◌-◌, ◌<◌, ◌≤◌, Bool, true, false, nat_eq, if◌then◌else◌, List, [], ◌∷◌, ◌++◌, length, reverse, take, drop, get_or, Option, Some, Result, Ok, IsOk, IsSome, refl, sym, ◌∙◌, ap, subst, is_some, arith, length-append}
use Rattle.std.proofs.lemmas.Bool.Decides.{nat_tests}
use Rattle.std.proofs.lemmas.List.{length-reverse, length-drop, length-take-le, drop_more, get_or-drop}
use Rattle.undo_core.specs.Prelude.{total, counts_in, open_in, newest_part, newest_place, places_below, ArePlaces, IsPart, places_after, items_of, IsRising, Run, replay, count_kept, put_back, unwound}
use Rattle.undo_core.specs.Leads.{IsStored, IsRead}
use Rattle.undo_core.proofs.Ending.{fewer, part-open, place-below}
use Rattle.undo_core.proofs.Parting.{parted_go, parted_some, parted_places, parted_back}
use Rattle.undo_core.proofs.Reverting.{later-fits}
use Rattle.undo_core.proofs.Sound.{IsDone, sound_replay, sound_put_back, sound_count, sound_total, done_first, go_sound, go_given, forth_sound, back_sound}
use Rattle.undo_core.proofs.Holding.{hold_given}
use Rattle.undo_core.proofs.Redoing.{given_of, first_given}
use Rattle.undo_core.proofs.Unwinding.{take_back}

some-counts : (counts : List ℕ) → 0 < total counts → 0 < length counts
some-counts [] some = absurd (omega (arith, some))
some-counts (count ∷ counts) some = omega arith

above-step : (b : Bool) (n p : ℕ) (ps : List ℕ) → nat_eq p n ≡ b → p < n → p ∷ ps ≡ (if b then ps else p ∷ ps)
above-step true n p ps e below = absurd (grind (arith, nat_tests, e, below))
above-step false n p ps e below = refl

-- places below so many values
above-all : (n : ℕ) (ps : List ℕ) → newest_place ps < n → ps ≡ places_below n ps
above-all n [] below = refl
above-all n (p ∷ ps) below = above-step (nat_eq p n) n p ps refl below

module _ {S C O F : Type 0} {gives : S → C → Result S F} {keeps : S → C → List O} {put : S → O → Option S} {last : O → Bool}
    {state : S} {kept : List O} {runs : List (Run C)} {places : List ℕ} {done : ℕ}
    (stored : IsStored gives keeps put last state kept runs places done) where
  abbrev counts : List ℕ
  counts = counts_in last (reverse places) (reverse kept)

  counted : done ≡ length counts
  counted = stored.parted.counted

  pub stored_within : done ≤ length (items_of 0 runs)
  stored_within = omega (arith, stored.sound.within, counted)

  -- the changes replay to the state
  pub stored_replay : replay gives (unwound put kept state) (take done (items_of 0 runs)) ≡ Some state
  stored_replay = rw counted (sound_replay stored.sound)

  pub stored_stands : IsSome (replay gives (unwound put kept state) (take done (items_of 0 runs)))
  stored_stands = ap is_some stored_replay

  -- as many values are kept as the changes count
  pub stored_count : length kept ≡ count_kept gives keeps (unwound put kept state) (take done (items_of 0 runs))
  stored_count = rw counted (sound_count stored.sound)

  -- each change keeps a value or more
  pub stored_few : done ≤ length kept
  stored_few = omega (arith, counted, fewer last (reverse places) (reverse kept), length-reverse kept)

  pub stored_first : {t : S} {c : C} {kept_now : List O} {count : ℕ} → IsDone gives keeps put state t c kept kept_now count →
      unwound put kept_now t ≡ unwound put kept state
  stored_first is = done_first stored.sound is

  -- after a new change, which cuts what stands ahead
  pub stored_go : {t : S} {c : C} {kept_now : List O} {count : ℕ} (b : Bool) (runs_now : List (Run C)) (places_now : List ℕ) (done_now : ℕ) →
      IsDone gives keeps put state t c kept kept_now count → IsPart last b (keeps state c) → IsRising 0 runs_now →
      items_of 0 runs_now ≡ take done (items_of 0 runs) ++ c ∷ [] → places_now ≡ places_after b (length kept_now) places → done_now ≡ done + 1 →
      IsStored gives keeps put last t kept_now runs_now places_now done_now
  stored_go {c = c} b runs_now places_now done_now is part rising items noted more =
      let p = parted_go stored.parted b (keeps state c) _ places_now done_now part is.kept_is noted more in
      record {
        rising = rising;
        parted = p.0;
        sound = go_sound stored.sound is (items_of 0 runs_now) _ (items ∙ ap (λ n. take n (items_of 0 runs) ++ c ∷ []) counted)
            (p.1 ∙ ap (λ n. counts ++ n ∷ []) (sym is.count_is));
      }

  -- the state before a new change gives the one after it
  pub stored_given : {t : S} {c : C} {kept_now : List O} {count : ℕ} (runs_now : List (Run C)) (done_now : ℕ) →
      IsDone gives keeps put state t c kept kept_now count → items_of 0 runs_now ≡ take done (items_of 0 runs) ++ c ∷ [] → done_now ≡ done + 1 →
      (before : S) → replay gives (unwound put kept state) (take done (items_of 0 runs)) ≡ Some before →
      (after : S) × (gives before c ≡ Ok after) × (replay gives (unwound put kept_now t) (take done_now (items_of 0 runs_now)) ≡ Some after)
  stored_given {c = c} {count = count} runs_now done_now is items more before was =
      let same : done_now ≡ length (counts ++ count ∷ []) = omega (arith, more, counted, length-append counts (count ∷ [])) in
      let given = go_given stored.sound is (items_of 0 runs_now) (counts ++ count ∷ []) (items ∙ ap (λ n. take n (items_of 0 runs) ++ c ∷ []) counted) refl
      before (rw counted at was) in
      (given.0, given.1, rw same given.2)

  -- after the next change ahead
  pub stored_forth : {t : S} {c : C} {kept_now : List O} {count : ℕ} (b : Bool) (places_now : List ℕ) (done_now : ℕ) →
      IsDone gives keeps put state t c kept kept_now count → IsPart last b (keeps state c) →
      done < length (items_of 0 runs) → c ≡ get_or (items_of 0 runs) done c → places_now ≡ places_after b (length kept_now) places → done_now ≡ done + 1 →
      IsStored gives keeps put last t kept_now runs places_now done_now
  stored_forth {c = c} b places_now done_now is part below next noted more =
      let p = parted_go stored.parted b (keeps state c) _ places_now done_now part is.kept_is noted more in
      record {
        rising = stored.rising;
        parted = p.0;
        sound = forth_sound stored.sound is (omega (arith, below, counted)) (next ∙ ap (λ n. get_or (items_of 0 runs) n c) counted) _
            (p.1 ∙ ap (λ n. counts ++ n ∷ []) (sym is.count_is));
      }

  pub stored_some : 0 < done → 0 < length kept
  stored_some some = parted_some stored.parted some

  pub stored_places : (places_now : List ℕ) → 0 < done → reverse places_now ≡ places_below (length kept) (reverse places) →
      ArePlaces (length kept - 1) (reverse places_now)
  stored_places places_now some is = parted_places stored.parted places_now some is

  -- there are values above the newest of the places before its own
  pub stored_top : (places_now : List ℕ) → 0 < done → reverse places_now ≡ places_below (length kept) (reverse places) → newest_place (reverse places_now) < length kept
  stored_top places_now some is =
      let below = place-below last (length kept - 1) (reverse places_now) (stored_places places_now some is) in
      omega (arith, below, stored_some some)

  -- the last values can be put back, however many
  pub stored_fits : (n : ℕ) → IsSome (put_back put (drop (length kept - n) kept) state)
  stored_fits n = later-fits put kept 0 (length kept - n) state (omega arith) (omega arith) (ap is_some (sound_put_back stored.sound))

  -- the newest part of those above the newest place is that of the last change
  pub stored_part : (places_now : List ℕ) (top most n : ℕ) → 0 < done → reverse places_now ≡ places_below (length kept) (reverse places) →
      top ≡ newest_place (reverse places_now) → most ≡ length kept - top → n ≡ newest_part last most (reverse kept) →
      n ≡ open_in last (reverse places_now) (drop 1 (reverse kept)) + 1
  stored_part places_now top most n some is place upper part =
      let len = length-reverse kept in
      let kept_some = stored_some some in
      part-open last (reverse kept) (reverse places_now) most n (omega (arith, len, kept_some))
      (subst (λ k. ArePlaces (k - 1) (reverse places_now)) (sym len) (stored_places places_now some is)) (omega (arith, upper, place, len)) part

  -- after the last change is taken back, which leaves the first state
  pub stored_back : (places_now : List ℕ) (done_now n : ℕ) (s : S) (kept_now : List O) → 0 < done → reverse places_now ≡ places_below (length kept) (reverse places) →
      n ≡ open_in last (reverse places_now) (drop 1 (reverse kept)) + 1 → done_now + 1 ≡ done →
      put_back put (drop (length kept - n) kept) state ≡ Some s → kept_now ≡ take (length kept - n) kept →
      IsStored gives keeps put last s kept_now runs places_now done_now × (unwound put kept_now s ≡ unwound put kept state)
  stored_back places_now done_now n s kept_now some is count fewer back cut =
      let p = parted_back stored.parted kept_now places_now done_now n some is count cut fewer in
      let led = back_sound stored.sound _ n p.1 s kept_now back cut in
      (record { rising = stored.rising; parted = p.0; sound = led.0 }, led.1)

  stored_done : 0 < length kept → 0 < done
  stored_done some = omega (arith, counted, some-counts counts (omega (arith, sound_total stored.sound, some)))

  -- the same where so many values stand above the newest place, and what is left of them then
  pub stored_down : (places_now : List ℕ) (left done_now n : ℕ) (s : S) (kept_now : List O) → 0 < left →
      reverse places_now ≡ places_below (length kept) (reverse places) → left ≡ length kept - newest_place (reverse places_now) →
      n ≡ newest_part last left (reverse kept) → n ≤ left → done_now ≡ done - 1 →
      put_back put (drop (length kept - n) kept) state ≡ Some s → kept_now ≡ take (length kept - n) kept →
      IsStored gives keeps put last s kept_now runs places_now done_now × (unwound put kept_now s ≡ unwound put kept state) × (0 < done)
      × (left - n ≡ length kept_now - newest_place (reverse places_now))
      × (0 < left - n → reverse places_now ≡ places_below (length kept_now) (reverse places_now))
  stored_down places_now left done_now n s kept_now some is above part within fewer back cut =
      let done_some = stored_done (omega (arith, some, above)) in
      let count = stored_part places_now (newest_place (reverse places_now)) left n done_some is refl above part in
      let led = stored_back places_now done_now n s kept_now done_some is count (omega (arith, fewer, done_some)) back cut in
      let len : length kept_now ≡ length kept - n = ap length cut ∙ length-take-le (length kept - n) kept (omega arith) in
      let rest : left - n ≡ length kept_now - newest_place (reverse places_now) = omega (arith, above, within, len) in
      (led.0, led.1, done_some, rest, (λ more. above-all (length kept_now) (reverse places_now) (omega (arith, more, rest))))

  pub stored_read : (count : ℕ) → count ≡ length kept →
      IsRead gives keeps put last (unwound put kept state) (take done (items_of 0 runs)) kept count places done
  stored_read count all = record { all = all; parted = stored.parted; back = take_back state kept counts done counted stored.sound }

  -- a change of those done or ahead can be done once more on the state before it
  pub stored_again : {before_all ahead : List C} (n : ℕ) (c : C) (before : S) → before_all ≡ take done (items_of 0 runs) → ahead ≡ drop done (items_of 0 runs) →
      n < length (before_all ++ ahead) → c ≡ get_or (items_of 0 runs) n c → replay gives (unwound put kept state) (take n (before_all ++ ahead)) ≡ Some before →
      (after : S) × (gives before c ≡ Ok after) × (replay gives (unwound put kept state) (take (n + 1) (before_all ++ ahead)) ≡ Some after)
  stored_again n c before done_is ahead_is below is came =
      given_of n c before stored.sound (done_is ∙ ap (λ m. take m (items_of 0 runs)) counted) (ahead_is ∙ ap (λ m. drop m (items_of 0 runs)) counted) below is came

  -- where something stands ahead, there are more changes than those done
  pub stored_more : {ahead : List C} (n : ℕ) → drop done (items_of 0 runs) ≡ ahead → n ≡ length ahead → (n ≡ 0 → ⊥) → done < length (items_of 0 runs)
  stored_more n is many some = grind (arith, ap length is, length-drop done (items_of 0 runs))

  -- the state gives the next change ahead
  pub stored_gives : (c : C) → done < length (items_of 0 runs) → c ≡ get_or (items_of 0 runs) done c → (t : S) × (gives state c ≡ Ok t)
  stored_gives c below next =
      let rest : drop done (items_of 0 runs) ≡ c ∷ drop (done + 1) (items_of 0 runs) =
      drop_more (items_of 0 runs) done c below ∙ ap (λ (d : C). d ∷ drop (done + 1) (items_of 0 runs)) (sym next) in
      first_given gives state c (drop (done + 1) (items_of 0 runs)) (rw rest at (rw (← counted) at stored.sound.ahead))

  pub stored_next : (c : C) (s : S) → done < length (items_of 0 runs) → c ≡ get_or (drop done (items_of 0 runs)) 0 c →
      replay gives (unwound put kept state) (take done (items_of 0 runs)) ≡ Some s → IsOk (gives s c)
  stored_next c s below next came =
      let place : done + 0 ≡ done = omega arith in
      let given = stored_gives c below (next ∙ get_or-drop done (items_of 0 runs) 0 c ∙ ap (λ n. get_or (items_of 0 runs) n c) place) in
      hold_given gives (unwound put kept state) state (take done (items_of 0 runs)) stored_replay c given.0 given.1 s came
