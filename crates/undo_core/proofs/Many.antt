-- What a journal stores is sound as a change is done again and again.
use Rattle.std.proofs.Common.{◌≡◌, ℕ, zero, suc, ◌+◌, ◌-◌, Bool, true, List, [], ◌∷◌, ◌++◌, length, take, drop, replicate, Option, Some, Result, Ok, refl, sym, ◌∙◌, ap, arith, length-append, append_assoc}
use Rattle.std.proofs.Math.Seq.{take-append_seam, drop-append_seam}
use Rattle.std.proofs.lemmas.List.{append-nil, take_all, length-take-le}
use Rattle.undo_core.specs.Prelude.{IsPart, items_of, IsRising, Run, History, replay, put_back, unwound, Repeats, IsStored}
use Rattle.undo_core.proofs.Repeating.{repeats-undone}
use Rattle.undo_core.proofs.Sound.{done_by}
use Rattle.undo_core.proofs.Stored.{stored_go, stored_first, stored_within}

-- each item in a run of its own
singles : {T : Type 0} → ℕ → List T → List (Run T)
singles n [] = []
singles n (x ∷ xs) = (record { item = x; end = n + 1 }) ∷ singles (n + 1) xs

singles-items : {T : Type 0} (n : ℕ) (xs : List T) → items_of n (singles n xs) ≡ xs
unfolding singles
singles-items n [] = refl
singles-items n (x ∷ xs) =
    let one : n + 1 - n ≡ 1 = omega arith in
    ap (λ k. replicate k x ++ items_of (n + 1) (singles (n + 1) xs)) one ∙ ap (λ l. x ∷ l) (singles-items (n + 1) xs)

singles-rising : {T : Type 0} (n : ℕ) (xs : List T) → IsRising n (singles n xs)
unfolding singles
singles-rising n [] = tt
singles-rising n (x ∷ xs) = (omega arith, singles-rising (n + 1) xs)

module _ {S C F O : Type 0} (real : S → C → Type 0) (gives : S → C → Result S F) (keeps : S → C → List O) (put : S → O → Option S) (last : O → Bool)
    (goes : S → C → Bool) (c : C)
    (undoes : (s t : S) → real s c → gives s c ≡ Ok t → put_back put (keeps s c) t ≡ Some s)
    (parts : (s t : S) → real s c → gives s c ≡ Ok t → IsPart last true (keeps s c)) where
  -- a change that says its end is done so many times
  pub stored_many : (n : ℕ) (s t : S) (kept kept_now os : List O) (runs runs_now : List (Run C)) (places : List ℕ) (done done_now : ℕ) →
      IsStored gives keeps put last s kept runs places done → Repeats real gives keeps goes c (suc n) s t os → kept_now ≡ kept ++ os →
      IsRising 0 runs_now → items_of 0 runs_now ≡ take done (items_of 0 runs) ++ replicate (suc n) c → done_now ≡ done + suc n →
      IsStored gives keeps put last t kept_now runs_now places done_now × (unwound put kept_now t ≡ unwound put kept s)
  stored_many zero s t kept kept_now os runs runs_now places done done_now stored did more rising items count =
      let u = did.1.0 in
      let rest = did.1.3 in
      let same : t ≡ u = rest.2.0 in
      let none : rest.0 ≡ [] = rest.2.1 in
      let given : gives s c ≡ Ok t = did.1.1 ∙ ap Ok (sym same) in
      let values : kept_now ≡ kept ++ keeps s c = more ∙ ap (λ l. kept ++ l) (rest.1 ∙ ap (λ l. keeps s c ++ l) none ∙ append-nil (keeps s c)) in
      let is = done_by given (undoes s t did.0 given) values refl in
      (stored_go stored true runs_now places done_now is (parts s t did.0 given) rising items refl (omega (arith, count)), stored_first stored is)
  stored_many (suc n) s t kept kept_now os runs runs_now places done done_now stored did more rising items count =
      let u = did.1.0 in
      let rest = did.1.3.0 in
      let given = did.1.1 in
      let first = take done (items_of 0 runs) ++ c ∷ [] in
      let is = done_by given (undoes s u did.0 given) refl refl in
      let one = stored_go stored true (singles 0 first) places (done + 1) is (parts s u did.0 given) (singles-rising 0 first) (singles-items 0 first) refl refl in
      let len : length first ≡ done + 1 =
      length-append (take done (items_of 0 runs)) (c ∷ []) ∙ ap (λ k. k + 1) (length-take-le done (items_of 0 runs) (stored_within stored)) in
      let before : take (done + 1) (items_of 0 (singles 0 first)) ≡ first =
      ap (take (done + 1)) (singles-items 0 first) ∙ take_all (done + 1) first (omega (arith, len)) in
      let all : items_of 0 runs_now ≡ take (done + 1) (items_of 0 (singles 0 first)) ++ replicate (suc n) c =
      items ∙ sym (ap (λ l. l ++ replicate (suc n) c) before ∙ append_assoc (take done (items_of 0 runs)) (c ∷ []) (replicate (suc n) c)) in
      let values : kept_now ≡ (kept ++ keeps s c) ++ rest = more ∙ ap (λ l. kept ++ l) did.1.3.1 ∙ sym (append_assoc kept (keeps s c) rest) in
      let next = stored_many n u t (kept ++ keeps s c) kept_now rest (singles 0 first) runs_now places (done + 1) done_now one did.1.3.2 values rising all
      (omega (arith, count)) in
      (next.0, next.1 ∙ stored_first stored is)

  -- the same for any number but none
  pub stored_times : (many : ℕ) (s t : S) (kept kept_now os : List O) (runs runs_now : List (Run C)) (places : List ℕ) (done done_now : ℕ) → (many ≡ 0 → ⊥) →
      IsStored gives keeps put last s kept runs places done → Repeats real gives keeps goes c many s t os → kept_now ≡ kept ++ os →
      IsRising 0 runs_now → items_of 0 runs_now ≡ take done (items_of 0 runs) ++ replicate many c → done_now ≡ done + many →
      IsStored gives keeps put last t kept_now runs_now places done_now × (unwound put kept_now t ≡ unwound put kept s)
  stored_times zero s t kept kept_now os runs runs_now places done done_now some stored did more rising items count = absurd (some refl)
  stored_times (suc n) s t kept kept_now os runs runs_now places done done_now some stored did more rising items count =
      stored_many n s t kept kept_now os runs runs_now places done done_now stored did more rising items count

-- the state and the values after the values of some changes were put back
module _ {S C O F : Type 0} (gives : S → C → Result S F) (keeps : S → C → List O) (put : S → O → Option S) (last : O → Bool) {s u : S} {kept kept_then : List O}
    (same : u ≡ s) (same_kept : kept_then ≡ kept) where
  pub replay_same : (cs : List C) → replay gives (unwound put kept s) cs ≡ Some s → replay gives (unwound put kept_then u) cs ≡ Some u
  replay_same cs came = rw same (rw same_kept came)

  pub stored_same : {runs runs_now : List (Run C)} {places : List ℕ} {done : ℕ} → runs_now ≡ runs → IsStored gives keeps put last s kept runs places done →
      IsStored gives keeps put last u kept_then runs_now places done
  stored_same same_runs stored = rw same (rw same_kept (rw same_runs stored))

  pub view_same : (runs runs_now : List (Run C)) (done : ℕ) (h : History S C) → runs_now ≡ runs →
      (record { first = unwound put kept s; changes = take done (items_of 0 runs); ahead = drop done (items_of 0 runs) }) ≡ h →
      (record { first = unwound put kept_then u; changes = take done (items_of 0 runs_now); ahead = drop done (items_of 0 runs_now) }) ≡ h
  view_same runs runs_now done h same_runs is = rw same (rw same_kept (rw same_runs is))

cut_at : {O : Type 0} (kept os kept_now : List O) (from end : ℕ) → kept_now ≡ kept ++ os → from ≡ length kept → end ≡ length kept_now →
    length kept_now - (end - from) ≡ length kept
cut_at kept os kept_now from end more begins ends = omega (arith, ap length more, length-append kept os, begins, ends)

-- the values from there on are those of the changes
pub dropped : {O : Type 0} (kept os kept_now : List O) (from end : ℕ) → kept_now ≡ kept ++ os → from ≡ length kept → end ≡ length kept_now →
    drop (length kept_now - (end - from)) kept_now ≡ os
dropped kept os kept_now from end more begins ends =
    ap (λ n. drop n kept_now) (cut_at kept os kept_now from end more begins ends) ∙ ap (drop (length kept)) more ∙ drop-append_seam kept os

some_same : {S : Type 0} {s t : S} → Some s ≡ Some t → s ≡ t
some_same e = cc

pub reverted : {S O : Type 0} (put : S → O → Option S) (kept os kept_now kept_then : List O) (s t u : S) (from end : ℕ) → kept_now ≡ kept ++ os →
    from ≡ length kept → end ≡ length kept_now → put_back put os t ≡ Some s →
    put_back put (drop (length kept_now - (end - from)) kept_now) t ≡ Some u → kept_then ≡ take (length kept_now - (end - from)) kept_now →
    (u ≡ s) × (kept_then ≡ kept)
reverted put kept os kept_now kept_then s t u from end more begins ends undone back cut =
    let place = cut_at kept os kept_now from end more begins ends in
    let rest = dropped kept os kept_now from end more begins ends in (
      some_same (sym back ∙ ap (λ l. put_back put l t) rest ∙ undone),
      cut ∙ ap (λ n. take n kept_now) place ∙ ap (take (length kept)) more ∙ take-append_seam kept os,
    )

-- a change that was done so many times, with its values put back
pub unmade : {S C F O : Type 0} (real : S → C → Type 0) (gives : S → C → Result S F) (keeps : S → C → List O) (put : S → O → Option S) (goes : S → C → Bool) (c : C) →
    ((s t : S) → real s c → gives s c ≡ Ok t → put_back put (keeps s c) t ≡ Some s) → (many : ℕ) (s t u : S) (kept kept_now kept_then : List O) (from end : ℕ) →
    ((os : List O) × (kept_now ≡ kept ++ os) × Repeats real gives keeps goes c many s t os) → from ≡ length kept → end ≡ length kept_now →
    put_back put (drop (length kept_now - (end - from)) kept_now) t ≡ Some u → kept_then ≡ take (length kept_now - (end - from)) kept_now →
    (u ≡ s) × (kept_then ≡ kept)
unmade real gives keeps put goes c undoes many s t u kept kept_now kept_then from end did begins ends back cut =
    reverted put kept did.0 kept_now kept_then s t u from end did.1 begins ends (repeats-undone real gives keeps goes c put undoes many s t did.0 did.2) back cut
