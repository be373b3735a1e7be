-- A change of those done or ahead can be done once more on the state before it.
use Rattle.std.proofs.Common.{◌≡◌, ℕ, ◌+◌, ◌<◌, ◌++◌, List, [], ◌∷◌, length, take, drop, get_or, Option, Some, Result, Ok, Err, IsSome, refl, sym, ◌∙◌, ap, append_assoc}
use Rattle.std.specs.Option.{option_and_then}
use Rattle.std.specs.Result.{result_ok}
use Rattle.std.proofs.Math.Seq.{take-append_seam}
use Rattle.std.proofs.lemmas.List.{take-append-drop, take_more}
use Rattle.undo_core.specs.Prelude.{replay, unwound, IsSound}
use Rattle.undo_core.proofs.ReplayLemmas.{replay-append_some}
use Rattle.undo_core.proofs.Sound.{sound_replay}

-- to replay two lists is to replay the second from where the first leads to
pub replay-join : {S C F : Type 0} (gives : S → C → Result S F) (s t : S) (xs ys : List C) → replay gives s xs ≡ Some t →
    replay gives s (xs ++ ys) ≡ replay gives t ys
replay-join gives s t [] ys h = let same : s ≡ t = cc in ap (λ u. replay gives u ys) same
replay-join {S} {C} {F} gives s t (x ∷ xs) ys h =
    (elim (gives s x) as (λ r. option_and_then {T = S} {U = S} (λ u. replay gives u xs) (result_ok r) ≡ Some t →
    option_and_then {T = S} {U = S} (λ u. replay gives u (xs ++ ys)) (result_ok r) ≡ replay gives t ys)
    [ Ok u ↦ λ g. replay-join gives u t xs ys g | Err _ ↦ λ g. absurd (cc) ]) h

-- the first of some changes that can be replayed
pub first_given : {S C F : Type 0} (gives : S → C → Result S F) (s : S) (c : C) (cs : List C) → IsSome (replay gives s (c ∷ cs)) →
    (t : S) × (gives s c ≡ Ok t)
first_given {S} {C} {F} gives s c cs some =
    (elim (gives s c) as (λ r. IsSome (option_and_then {T = S} {U = S} (λ u. replay gives u cs) (result_ok r)) → (t : S) × (r ≡ Ok t))
    [ Ok u ↦ λ _. (u, refl) | Err _ ↦ λ none. absurd (cc) ]) some

module _ {S C O F : Type 0} {gives : S → C → Result S F} {keeps : S → C → List O} {put : S → O → Option S}
    {state : S} {kept : List O} {changes : List C} {counts : List ℕ} where
  -- all changes can be replayed
  all_replay : IsSound gives keeps put state kept changes counts → IsSome (replay gives (unwound put kept state) changes)
  all_replay sound =
      let n = length counts in
      rw (ap (replay gives (unwound put kept state)) (sym (take-append-drop n changes))
      ∙ replay-join gives (unwound put kept state) state (take n changes) (drop n changes) (sound_replay sound)) sound.ahead

  pub given_again : (n : ℕ) (c : C) (before : S) → IsSound gives keeps put state kept changes counts → n < length changes → c ≡ get_or changes n c →
      replay gives (unwound put kept state) (take n changes) ≡ Some before →
      (after : S) × (gives before c ≡ Ok after) × (replay gives (unwound put kept state) (take (n + 1) changes) ≡ Some after)
  given_again n c before sound below is came =
      let first = unwound put kept state in
      let next : take (n + 1) changes ≡ take n changes ++ c ∷ [] = take_more changes n c below ∙ ap (λ d. take n changes ++ d ∷ []) (sym is) in
      let all : replay gives before (c ∷ drop (n + 1) changes) ≡ replay gives first changes =
      sym (replay-join gives first before (take n changes) (c ∷ drop (n + 1) changes) came)
      ∙ ap (replay gives first) (sym (append_assoc (take n changes) (c ∷ []) (drop (n + 1) changes)) ∙ ap (λ (cs : List C). cs ++ drop (n + 1) changes) (sym next) ∙ take-append-drop (n + 1) changes) in
      let given = first_given gives before c (drop (n + 1) changes) (rw all (all_replay sound)) in
      (given.0, given.1, ap (replay gives first) next ∙ replay-append_some gives first before given.0 (take n changes) c came given.1)

  -- the same, where the changes are told as those done and those ahead
  pub given_of : {done ahead : List C} (n : ℕ) (c : C) (before : S) → IsSound gives keeps put state kept changes counts →
      done ≡ take (length counts) changes → ahead ≡ drop (length counts) changes → n < length (done ++ ahead) → c ≡ get_or changes n c →
      replay gives (unwound put kept state) (take n (done ++ ahead)) ≡ Some before →
      (after : S) × (gives before c ≡ Ok after) × (replay gives (unwound put kept state) (take (n + 1) (done ++ ahead)) ≡ Some after)
  given_of n c before sound done_is ahead_is below is came =
      let all : take (length counts) changes ++ drop (length counts) changes ≡ changes = take-append-drop (length counts) changes in
      rw (done_is, ahead_is, all) (given_again n c before sound (rw (done_is, ahead_is, all) at below) is (rw (done_is, ahead_is, all) at came))

-- the changes done are the first of all
pub done_of : {A : Type 0} (done ahead : List A) (n : ℕ) → n ≡ length done → take n (done ++ ahead) ≡ done
done_of done ahead n is = rw (is, take-append_seam) refl
