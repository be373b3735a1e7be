-- The last of a list of old values is put back first.
use Rattle.std.proofs.Common.{ℕ, ◌≡◌, ◌+◌, ◌-◌, ◌<◌, ◌≤◌, ◌++◌, ◌∙◌, List, [], ◌∷◌, Option, Some, None, IsSome, length, take, drop, reverse, refl, sym, ap, subst, arith, length-append}
use Rattle.std.proofs.Math.Seq.{take-append_seam, drop-append_seam}
use Rattle.std.proofs.lemmas.List.{length-take-le, length-drop, length-reverse, reverse-append, take-take, take-append-drop, drop-append-le}
use Rattle.std.specs.Option.{option_and_then}
use Rattle.undo_core.specs.Replay.{put_back}

put_back-last : {S O : Type 0} (put : S → O → Option S) (xs : List O) (o : O) (s : S) (t : Option S) → put s o ≡ t →
    put_back put (xs ++ o ∷ []) s ≡ option_and_then (put_back put xs) t
put_back-last put [] o s None h = h
put_back-last put [] o s (Some t) h = h
put_back-last put (x ∷ xs) o s None h = ap (option_and_then (λ u. put u x)) (put_back-last put xs o s None h)
put_back-last put (x ∷ xs) o s (Some t) h = ap (option_and_then (λ u. put u x)) (put_back-last put xs o s (Some t) h)

put_back-of : {S O : Type 0} (put : S → O → Option S) (items rest : List O) (o : O) (s : S) → items ≡ rest ++ o ∷ [] →
    put_back put items s ≡ option_and_then (put_back put rest) (put s o)
put_back-of put items rest o s e = ap (λ os. put_back put os s) e ∙ put_back-last put rest o s (put s o) refl

some-of : {S : Type 0} (f : S → Option S) (t : Option S) → IsSome (option_and_then f t) → IsSome t
some-of f None h = h
some-of f (Some t) h = refl

-- the last value fits where the whole list can be put back
pub last-fits : {S O : Type 0} (put : S → O → Option S) (items rest : List O) (o : O) (s : S) → items ≡ rest ++ o ∷ [] →
    IsSome (put_back put items s) → IsSome (put s o)
last-fits put items rest o s e some = some-of (put_back put rest) (put s o) (subst IsSome (put_back-of put items rest o s e) some)

-- the same where the last values of a list can be put back
pub last-of-fits : {S O : Type 0} (put : S → O → Option S) (xs rest : List O) (o : O) (n : ℕ) (s : S) → xs ≡ rest ++ o ∷ [] → 0 < n → n ≤ length xs →
    IsSome (put_back put (drop (length xs - n) xs) s) → IsSome (put s o)
last-of-fits put xs rest o n s is more within some =
    let k = length xs - n in
    let ends : drop k xs ≡ drop k rest ++ o ∷ [] =
    ap (drop k) is ∙ drop-append-le k rest (o ∷ []) (omega (arith, more, within, ap length is, length-append rest (o ∷ []))) in
    last-fits put (drop k xs) (drop k rest) o s ends some

-- putting back the rest after it gives what putting back the whole list does
pub last-put : {S O : Type 0} (put : S → O → Option S) (items rest : List O) (o : O) (s t : S) → items ≡ rest ++ o ∷ [] →
    put s o ≡ Some t → put_back put items s ≡ put_back put rest t
last-put put items rest o s t e f = put_back-of put items rest o s e ∙ ap (option_and_then (put_back put rest)) f

-- the first m items without the last of them
pub front_of : {O : Type 0} (xs front rest : List O) (x : O) (n m : ℕ) → front ≡ take m xs → m ≤ length xs → n + 1 ≡ m → front ≡ rest ++ x ∷ [] → rest ≡ take n xs
front_of xs front rest x n m first within next is =
    let many : length front ≡ m = ap length first ∙ length-take-le m xs within in
    let all : length front ≡ length rest + 1 = ap length is ∙ length-append rest (x ∷ []) in
    let place : length rest ≡ n = omega (arith, many, all, next) in
    sym (take-append_seam rest (x ∷ [])) ∙ ap (take (length rest)) (sym is ∙ first) ∙ take-take (length rest) m xs (omega (arith, place, next)) ∙ ap (λ k. take k xs) place

put_back-join : {S O : Type 0} (put : S → O → Option S) (xs ys : List O) (s : S) (t : Option S) → put_back put ys s ≡ t →
    put_back put (xs ++ ys) s ≡ option_and_then (put_back put xs) t
put_back-join put [] ys s None h = h
put_back-join put [] ys s (Some t) h = h
put_back-join put (x ∷ xs) ys s None h = ap (option_and_then (λ u. put u x)) (put_back-join put xs ys s None h)
put_back-join put (x ∷ xs) ys s (Some t) h = ap (option_and_then (λ u. put u x)) (put_back-join put xs ys s (Some t) h)

-- values from one place on are those from there to a later one, and those from that one on
from-place : {O : Type 0} (xs : List O) (n m : ℕ) → n ≤ m → m ≤ length xs → drop n xs ≡ drop n (take m xs) ++ drop m xs
from-place xs n m below within =
    ap (drop n) (sym (take-append-drop m xs)) ∙ drop-append-le n (take m xs) (drop m xs) (omega (arith, below, length-take-le m xs within))

-- the last values fit where more of them can be put back
pub later-fits : {S O : Type 0} (put : S → O → Option S) (xs : List O) (n m : ℕ) (s : S) → n ≤ m → m ≤ length xs →
    IsSome (put_back put (drop n xs) s) → IsSome (put_back put (drop m xs) s)
later-fits put xs n m s below within some =
    let joined = ap (λ os. put_back put os s) (from-place xs n m below within) ∙ put_back-join put (drop n (take m xs)) (drop m xs) s _ refl in
    some-of (put_back put (drop n (take m xs))) (put_back put (drop m xs) s) (subst IsSome joined some)

-- putting back those before them gives what putting back all does
pub later-put : {S O : Type 0} (put : S → O → Option S) (xs : List O) (n m : ℕ) (s t : S) → n ≤ m → m ≤ length xs →
    put_back put (drop m xs) s ≡ Some t → put_back put (drop n xs) s ≡ put_back put (drop n (take m xs)) t
later-put put xs n m s t below within is =
    ap (λ os. put_back put os s) (from-place xs n m below within) ∙ put_back-join put (drop n (take m xs)) (drop m xs) s (Some t) is

-- so many values of a list
pub cut-length : {O : Type 0} (xs all : List O) (n : ℕ) → xs ≡ take n all → n ≤ length all → length xs ≡ n
cut-length xs all n is within = ap length is ∙ length-take-le n all within

-- some values fewer of them
pub cut-some : {O : Type 0} (xs all : List O) (n some : ℕ) → xs ≡ take n all → n ≤ length all → take (length xs - some) xs ≡ take (n - some) all
cut-some xs all n some is within =
    let len = cut-length xs all n is within in
    let place : length xs - some ≡ n - some = omega (arith, len) in
    ap (take (length xs - some)) is ∙ take-take (length xs - some) n all (omega (arith, len)) ∙ ap (λ k. take k all) place

-- backwards, the first values of a list are those after the last ones
pub front-reversed : {O : Type 0} (xs all : List O) (m : ℕ) → xs ≡ take (length all - m) all → m ≤ length all → reverse xs ≡ drop m (reverse all)
front-reversed xs all m is within =
    let k = length all - m in
    let whole : reverse all ≡ reverse (drop k all) ++ reverse (take k all) = ap reverse (sym (take-append-drop k all)) ∙ reverse-append (take k all) (drop k all) in
    let many : length (reverse (drop k all)) ≡ m = length-reverse (drop k all) ∙ length-drop k all ∙ omega (arith, within) in
    ap reverse is ∙ sym (drop-append_seam (reverse (drop k all)) (reverse (take k all))) ∙ ap (λ n. drop n (reverse (drop k all) ++ reverse (take k all))) many
    ∙ ap (drop m) (sym whole)
