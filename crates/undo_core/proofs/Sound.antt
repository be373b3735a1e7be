-- A journal stays sound as a change is done, taken back and done again, and its first state stays.
use Rattle.std.proofs.Common.{◌≡◌, ℕ, ◌+◌, ◌-◌, ◌<◌, ◌≤◌, List, [], ◌∷◌, ◌++◌, length, take, drop, reverse, get_or}
use Rattle.std.proofs.Common.{Option, Some, Result, Ok, Err, IsOk, refl, sym, ◌∙◌, ap, add-one, arith, unwrap_or, length-append}
use Rattle.std.proofs.Math.Seq.{drop-cons, drop-append_seam, take-append_seam}
use Rattle.std.proofs.lemmas.List.{reverse-append, reverse-reverse, length-take-le, take_all, drop_all, take_more}
use Rattle.std.proofs.lemmas.List.{take-append-drop, drop-append-le, take-take}
use Rattle.std.specs.Result.{IsErrAnd}
use Rattle.mix_refused.specs.declared.refused.Refused.{Refused}
use Rattle.mix_refused.specs.declared.refused.Refused.TheVariants.{Fault, Memory}
use Rattle.mix_refused.specs.Refused.{IfFault, IfMemory}
use Rattle.undo_core.specs.Prelude.{total, replay, count_kept, put_back, unwound}
use Rattle.undo_core.specs.Leads.{Leads, IsNewest, IsSound}
use Rattle.undo_core.proofs.LeadsLemmas.{leads-replay, leads-count_kept, leads-put_back, leads-total}
use Rattle.undo_core.proofs.ReplayLemmas.{replay-append_some, put_back-append}

-- what putting all values back gives, where it gives something
pub unwound_some : {S O : Type 0} (put : S → O → Option S) (kept : List O) (s first : S) →
    put_back put kept s ≡ Some first → unwound put kept s ≡ first
unwound_some {S} put kept s first h = ap (λ (o : Option S). unwrap_or o s) h

-- the last of a list stands first in it reversed
pub reverse-append_last : {A : Type 0} (xs : List A) (x : A) → reverse (xs ++ x ∷ []) ≡ x ∷ reverse xs
reverse-append_last xs x = reverse-append xs (x ∷ [])

-- an item of a list that has one
pub item_of : {A : Type 0} (xs : List A) → 0 < length xs → A
item_of [] some = absurd (omega arith)
item_of (x ∷ _) some = x

-- what stands ahead after the last change is taken back
pub back_ahead : {A : Type 0} (xs : List A) (n done : ℕ) → n + 1 ≡ done → done ≤ length xs →
    drop n xs ≡ drop (length (take done xs) - 1) (take done xs) ++ drop done xs
back_ahead xs n done last within =
    let many = length-take-le done xs within in
    let place : length (take done xs) - 1 ≡ n = omega arith in
    let le : n ≤ length (take done xs) = omega arith in
    rw place (ap (drop n) (sym (take-append-drop done xs)) ∙ drop-append-le n (take done xs) (drop done xs) le)

pub back_changes : {A : Type 0} (xs : List A) (n done : ℕ) → n + 1 ≡ done → done ≤ length xs →
    take n xs ≡ take (length (take done xs) - 1) (take done xs)
back_changes xs n done last within =
    let many = length-take-le done xs within in
    let place : length (take done xs) - 1 ≡ n = omega arith in
    rw place (sym (take-take n done xs (omega arith)))

-- the fault of a refusal that a `?` passed on
pub fault_of : {S C F : Type 0} (gives : S → C → Result S F) (state : S) (c : C) (first : S) (cs : List C)
    (e : Refused F) (r : Result (Unit {0}) (Refused F)) →
    IsErrAnd r (λ x. x ≡ e) → IfFault {T = Unit {0}} (Err e) (λ f. gives state c ≡ Err f) → replay gives first cs ≡ Some state →
    IfFault r (λ f. (s : S) → replay gives first cs ≡ Some s → gives s c ≡ Err f)
fault_of gives state c first cs e (Ok _) passed fault before = absurd passed
fault_of gives state c first cs e (Err Memory) passed fault before = tt
fault_of gives state c first cs (Fault f) (Err (Fault g)) passed fault before = λ s now. cc
fault_of gives state c first cs Memory (Err (Fault g)) passed fault before = absurd (cc)

-- the same of want of memory
pub memory_of : {S C F : Type 0} (gives : S → C → Result S F) (state : S) (c : C) (first : S) (cs : List C)
    (e : Refused F) (r : Result (Unit {0}) (Refused F)) →
    IsErrAnd r (λ x. x ≡ e) → IfMemory {T = Unit {0}} (Err e) (IsOk (gives state c)) → replay gives first cs ≡ Some state →
    IfMemory r ((s : S) → replay gives first cs ≡ Some s → IsOk (gives s c))
memory_of gives state c first cs e (Ok _) passed given before = absurd passed
memory_of gives state c first cs e (Err (Fault g)) passed given before = tt
memory_of gives state c first cs Memory (Err Memory) passed given before = λ s now. let same : state ≡ s = cc in rw (← same) given
memory_of gives state c first cs (Fault f) (Err Memory) passed given before = absurd (cc)

-- a change that was done: the state after it, and its values after the others, so many of them
pub record IsDone {S C O F : Type 0} (gives : S → C → Result S F) (keeps : S → C → List O) (put : S → O → Option S)
    (s t : S) (c : C) (kept kept_then : List O) (count : ℕ) : Type 0 where
  pub given : gives s c ≡ Ok t
  pub undone : put_back put (keeps s c) t ≡ Some s
  pub kept_is : kept_then ≡ kept ++ keeps s c
  pub count_is : count ≡ length (keeps s c)

pub done_by : {S C O F : Type 0} {gives : S → C → Result S F} {keeps : S → C → List O} {put : S → O → Option S}
    {s t : S} {c : C} {kept kept_then : List O} {count : ℕ} → gives s c ≡ Ok t → put_back put (keeps s c) t ≡ Some s →
    kept_then ≡ kept ++ keeps s c → count ≡ length (keeps s c) → IsDone gives keeps put s t c kept kept_then count
done_by given undone kept_is count_is = record { given = given; undone = undone; kept_is = kept_is; count_is = count_is }

-- how many values were appended
pub count_of : {O : Type 0} (kept kept_now values : List O) (start end : ℕ) → kept_now ≡ kept ++ values → start ≡ length kept → end ≡ length kept_now →
    end - start ≡ length values
count_of kept kept_now values start end is from to =
    let all = ap length is ∙ length-append kept values in
    omega (arith, from, to, all)

-- the last change, and what takes it back; the counts of the others are the rest
pub record IsLast {S C O F : Type 0} (gives : S → C → Result S F) (keeps : S → C → List O) (put : S → O → Option S)
    (state : S) (kept : List O) (changes : List C) (rest : List ℕ) (count : ℕ) (before : S) (c : C) : Type 0 where
  pub newest : IsNewest gives keeps put c count kept before state
  pub older : Leads gives keeps put (unwound put kept state) (reverse (take (length rest) changes)) (reverse rest) (take (length kept - count) kept) before
  pub next : drop (length rest) changes ≡ c ∷ drop (length rest + 1) changes
  -- its values can be put back
  pub fits : put_back put (drop (length kept - count) kept) state ≡ Some before

module _ {S C O F : Type 0} {gives : S → C → Result S F} {keeps : S → C → List O} {put : S → O → Option S}
    {state : S} {kept : List O} {changes : List C} {counts : List ℕ}
    (sound : IsSound gives keeps put state kept changes counts) where
  -- the changes replay to the state
  pub sound_replay : replay gives (unwound put kept state) (take (length counts) changes) ≡ Some state
  sound_replay =
      rw reverse-reverse at (leads-replay gives keeps put (unwound put kept state) (reverse (take (length counts) changes))
      (reverse counts) kept state sound.done)

  -- as many values are kept as the changes count
  pub sound_count : length kept ≡ count_kept gives keeps (unwound put kept state) (take (length counts) changes)
  sound_count =
      rw reverse-reverse at (leads-count_kept gives keeps put (unwound put kept state) (reverse (take (length counts) changes))
      (reverse counts) kept state sound.done)

  -- and all of them are counted
  pub sound_total : total counts ≡ length kept
  sound_total =
      rw reverse-reverse at (leads-total gives keeps put (unwound put kept state) (reverse (take (length counts) changes))
      (reverse counts) kept state sound.done)

  -- all values can be put back
  pub sound_put_back : put_back put kept state ≡ Some (unwound put kept state)
  sound_put_back =
      leads-put_back gives keeps put (unwound put kept state) (reverse (take (length counts) changes)) (reverse counts) kept state
      sound.done

  -- one change more leaves the first state
  pub done_first : {t : S} {c : C} {kept_then : List O} {count : ℕ} → IsDone gives keeps put state t c kept kept_then count →
      unwound put kept_then t ≡ unwound put kept state
  done_first {t} {c} {kept_then} done =
      unwound_some put kept_then t (unwound put kept state)
      (rw done.kept_is (put_back-append put kept (keeps state c) t state done.undone ∙ sound_put_back))

  -- and leads to the state after it
  pub done_leads : {t : S} {c : C} {kept_then : List O} {count : ℕ} → IsDone gives keeps put state t c kept kept_then count →
      (all : List C) (all_counts : List ℕ) → all ≡ take (length counts) changes ++ c ∷ [] → all_counts ≡ counts ++ count ∷ [] →
      Leads gives keeps put (unwound put kept_then t) (reverse all) (reverse all_counts) kept_then t
  done_leads {t} {c} {kept_then} {count} done all all_counts e f =
      let values = keeps state c in
      let place : length (kept ++ values) - count ≡ length kept = omega (arith, length-append kept values, done.count_is) in
      rw (
        done_first done,
        e,
        f,
        reverse-append_last (take (length counts) changes) c,
        reverse-append_last counts count,
        done.kept_is,
      ) (
        state,
        record {
          given = done.given;
          values = rw place (drop-append_seam kept values);
          undone = done.undone;
          within = omega (arith, length-append kept values, done.count_is);
        },
        rw (place, take-append_seam kept values) sound.done,
      )

  -- each change of a new list is done
  pub go_whole : (c : C) (count : ℕ) (all : List C) (all_counts : List ℕ) →
      all ≡ take (length counts) changes ++ c ∷ [] → all_counts ≡ counts ++ count ∷ [] → length all ≡ length all_counts
  go_whole c count all all_counts e f =
      let many : length all ≡ length (take (length counts) changes) + 1 =
      ap length e ∙ length-append (take (length counts) changes) (c ∷ []) in
      let many_counts : length all_counts ≡ length counts + 1 = ap length f ∙ length-append counts (count ∷ []) in
      omega (arith, length-take-le (length counts) changes sound.within)

  -- after a new change, which cuts what stands ahead
  pub go_sound : {t : S} {c : C} {kept_then : List O} {count : ℕ} → IsDone gives keeps put state t c kept kept_then count →
      (all : List C) (all_counts : List ℕ) → all ≡ take (length counts) changes ++ c ∷ [] → all_counts ≡ counts ++ count ∷ [] →
      IsSound gives keeps put t kept_then all all_counts
  go_sound {t} {c} {kept_then} {count} done all all_counts e f =
      let whole = go_whole c count all all_counts e f in
      record {
        within = omega arith;
        done = rw (take_all (length all_counts) all (omega arith)) (done_leads done all all_counts e f);
        ahead = rw (drop_all (length all_counts) all (omega arith)) refl;
      }

  -- the new list replays to the new state
  pub go_replays : {t : S} {c : C} {kept_then : List O} {count : ℕ} → IsDone gives keeps put state t c kept kept_then count →
      (all : List C) (all_counts : List ℕ) → all ≡ take (length counts) changes ++ c ∷ [] → all_counts ≡ counts ++ count ∷ [] →
      replay gives (unwound put kept_then t) (take (length all_counts) all) ≡ Some t
  go_replays {t} {c} {kept_then} {count} done all all_counts e f =
      let whole = go_whole c count all all_counts e f in
      rw (done_first done, take_all (length all_counts) all (omega arith), e)
      (replay-append_some gives (unwound put kept state) state t (take (length counts) changes) c sound_replay done.given)

  -- the state before a new change gives the one after it, to which the new list replays
  pub go_given : {t : S} {c : C} {kept_then : List O} {count : ℕ} → IsDone gives keeps put state t c kept kept_then count →
      (all : List C) (all_counts : List ℕ) → all ≡ take (length counts) changes ++ c ∷ [] → all_counts ≡ counts ++ count ∷ [] →
      (before : S) → replay gives (unwound put kept state) (take (length counts) changes) ≡ Some before →
      (after : S) × (gives before c ≡ Ok after) × (replay gives (unwound put kept_then t) (take (length all_counts) all) ≡ Some after)
  go_given {t} done all all_counts e f before was =
      let given = done.given in
      (t, cc sound_replay, go_replays done all all_counts e f)

  -- after the next change ahead
  pub forth_sound : {t : S} {c : C} {kept_then : List O} {count : ℕ} → IsDone gives keeps put state t c kept kept_then count →
      length counts < length changes → c ≡ get_or changes (length counts) c → (all_counts : List ℕ) → all_counts ≡ counts ++ count ∷ [] →
      IsSound gives keeps put t kept_then changes all_counts
  forth_sound {t} {c} {kept_then} {count} done below next all_counts f =
      let many : length all_counts ≡ length counts + 1 = ap length f ∙ length-append counts (count ∷ []) in
      let more : take (length all_counts) changes ≡ take (length counts) changes ++ c ∷ [] =
      rw many (rw (← next) at (take_more changes (length counts) c below)) in
      let rest : drop (length counts) changes ≡ c ∷ drop (length all_counts) changes =
      let h = rw (← next) at (drop-cons changes (length counts) c below) in rw (many, add-one) h in
      record {
        within = omega arith;
        done = done_leads done (take (length all_counts) changes) all_counts more f;
        ahead = rw (rest, done.given) at sound.ahead;
      }

  last_or : (d : C) (rest : List ℕ) (count : ℕ) → counts ≡ rest ++ count ∷ [] →
      (before : S) × IsLast gives keeps put state kept changes rest count before (get_or changes (length rest) d)
  last_or d rest count last =
      let many : length counts ≡ length rest + 1 = ap length last ∙ length-append rest (count ∷ []) in
      let below : length rest < length changes = omega (arith, sound.within) in
      let more : take (length counts) changes ≡ take (length rest) changes ++ get_or changes (length rest) d ∷ [] =
      rw many (take_more changes (length rest) d below) in
      let done = rw (
        more,
        last,
        reverse-append_last (take (length rest) changes) (get_or changes (length rest) d),
        reverse-append_last rest count,
      ) at sound.done in (
        done.0,
        record {
          newest = done.1;
          older = done.2;
          next = rw add-one (drop-cons changes (length rest) d below);
          fits = rw done.1.values done.1.undone;
        },
      )

  -- where a change is left there is a last one
  pub last_of : (rest : List ℕ) (count : ℕ) → counts ≡ rest ++ count ∷ [] →
      (before : S) × (c : C) × IsLast gives keeps put state kept changes rest count before c
  last_of rest count last =
      let d : C = item_of changes (omega (arith, sound.within, ap length last, length-append rest (count ∷ []))) in
      let l = last_or d rest count last in
      (l.0, get_or changes (length rest) d, l.1)

  -- after the last change is taken back, which leaves the first state
  pub back_sound : (rest : List ℕ) (count : ℕ) → counts ≡ rest ++ count ∷ [] →
      (s : S) (kept_then : List O) → put_back put (drop (length kept - count) kept) state ≡ Some s → kept_then ≡ take (length kept - count) kept →
      IsSound gives keeps put s kept_then changes rest × (unwound put kept_then s ≡ unwound put kept state)
  back_sound rest count last s kept_then back cut =
      let l = last_of rest count last in
      let many : length counts ≡ length rest + 1 = ap length last ∙ length-append rest (count ∷ []) in
      let same : s ≡ l.0 = cc l.2.fits in
      let first : unwound put (take (length kept - count) kept) l.0 ≡ unwound put kept state =
      unwound_some put (take (length kept - count) kept) l.0 (unwound put kept state)
      (leads-put_back gives keeps put (unwound put kept state) (reverse (take (length rest) changes)) (reverse rest) (take (length kept - count) kept)
      l.0 l.2.older) in (
        rw (same, cut) (record {
          within = omega (arith, sound.within);
          done = rw first l.2.older;
          ahead = rw (l.2.next, l.2.newest.given) (rw many at sound.ahead);
        }),
        rw (same, cut) first,
      )
