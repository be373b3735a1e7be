-- What the old values of a journal lead to: the replay of its changes, their count, and the first state.
use Rattle.std.proofs.Common.{◌≡◌, ℕ, ◌-◌, List, [], ◌∷◌, ◌++◌, length, take, drop, reverse, Option, Some, Result, refl, sym, ◌∙◌, ap, arith, length-append}
use Rattle.std.proofs.lemmas.List.{reverse-append, take-append-drop, length-take-le}
use Rattle.undo_core.specs.Prelude.{total, replay, count_kept, put_back}
use Rattle.undo_core.specs.Leads.{Leads}
use Rattle.undo_core.proofs.CountLemmas.{total-last}
use Rattle.undo_core.proofs.ReplayLemmas.{replay-append_some, count_kept-append, put_back-append}

-- the first of a reversed list stands last
pub reverse_cons : {A : Type 0} (x : A) (xs : List A) → reverse (x ∷ xs) ≡ reverse xs ++ x ∷ []
reverse_cons x xs = reverse-append (x ∷ []) xs

-- the changes replay to the state
pub leads-replay : {S C O F : Type 0} (gives : S → C → Result S F) (keeps : S → C → List O) (put : S → O → Option S) (first : S)
    (cs : List C) (ns : List ℕ) (kept : List O) (now : S) →
    Leads gives keeps put first cs ns kept now → replay gives first (reverse cs) ≡ Some now
leads-replay gives keeps put first [] [] kept now h = ap Some (sym h.1)
leads-replay gives keeps put first [] (_ ∷ _) kept now h = absurd h
leads-replay gives keeps put first (_ ∷ _) [] kept now h = absurd h
leads-replay gives keeps put first (c ∷ cs) (n ∷ ns) kept now (before, newest, older) =
    rw reverse_cons (replay-append_some gives first before now (reverse cs) c (leads-replay gives keeps put first cs ns (take (length kept - n) kept) before older) newest.given)

-- as many values are kept as the changes count
pub leads-count_kept : {S C O F : Type 0} (gives : S → C → Result S F) (keeps : S → C → List O) (put : S → O → Option S) (first : S)
    (cs : List C) (ns : List ℕ) (kept : List O) (now : S) →
    Leads gives keeps put first cs ns kept now → length kept ≡ count_kept gives keeps first (reverse cs)
leads-count_kept gives keeps put first [] [] kept now h = ap length h.0
leads-count_kept gives keeps put first [] (_ ∷ _) kept now h = absurd h
leads-count_kept gives keeps put first (_ ∷ _) [] kept now h = absurd h
leads-count_kept gives keeps put first (c ∷ cs) (n ∷ ns) kept now (before, newest, older) =
    let replayed = leads-replay gives keeps put first cs ns (take (length kept - n) kept) before older in
    let counted = leads-count_kept gives keeps put first cs ns (take (length kept - n) kept) before older in
    let more = count_kept-append gives keeps first before (reverse cs) c replayed in
    let values = ap length newest.values in
    let whole = ap length (take-append-drop (length kept - n) kept) in
    rw reverse_cons (omega (arith, length-append (take (length kept - n) kept) (drop (length kept - n) kept)))

-- putting the values back gives the first state
pub leads-put_back : {S C O F : Type 0} (gives : S → C → Result S F) (keeps : S → C → List O) (put : S → O → Option S) (first : S)
    (cs : List C) (ns : List ℕ) (kept : List O) (now : S) →
    Leads gives keeps put first cs ns kept now → put_back put kept now ≡ Some first
leads-put_back gives keeps put first [] [] kept now h = rw (h.0, h.1) refl
leads-put_back gives keeps put first [] (_ ∷ _) kept now h = absurd h
leads-put_back gives keeps put first (_ ∷ _) [] kept now h = absurd h
leads-put_back {S} {C} {O} {F} gives keeps put first (c ∷ cs) (n ∷ ns) kept now (before, newest, older) =
    let undone : put_back put (drop (length kept - n) kept) now ≡ Some before = rw newest.values newest.undone in
    ap (λ (os : List O). put_back put os now) (sym (take-append-drop (length kept - n) kept))
    ∙ put_back-append put (take (length kept - n) kept) (drop (length kept - n) kept) now before undone
    ∙ leads-put_back gives keeps put first cs ns (take (length kept - n) kept) before older

-- all values are counted
pub leads-total : {S C O F : Type 0} (gives : S → C → Result S F) (keeps : S → C → List O) (put : S → O → Option S) (first : S)
    (cs : List C) (ns : List ℕ) (kept : List O) (now : S) →
    Leads gives keeps put first cs ns kept now → total (reverse ns) ≡ length kept
leads-total gives keeps put first [] [] kept now h = rw h.0 refl
leads-total gives keeps put first [] (_ ∷ _) kept now h = absurd h
leads-total gives keeps put first (_ ∷ _) [] kept now h = absurd h
leads-total gives keeps put first (c ∷ cs) (n ∷ ns) kept now (before, newest, older) =
    let counted = leads-total gives keeps put first cs ns (take (length kept - n) kept) before older in
    let len = length-take-le (length kept - n) kept (omega arith) in
    rw reverse_cons (omega (arith, total-last (reverse ns) n, counted, len, newest.within))
