-- Facts of lists of what differs, over plain variables.
use Rattle.std.proofs.Common.{◌≡◌, ℕ, ◌+◌, ◌<◌, Bool, List, [], ◌∷◌, ◌++◌, length, take, map, get_or, flat_map, sym, ap, ◌∙◌, add-one, arith}
use Rattle.std.proofs.lemmas.List.{append-nil, map-append, take_more}
use Rattle.std.proofs.lemmas.List.Elements.{filter-append}
use Rattle.std.proofs.lemmas.Grind.{flat_map-append}
use Rattle.std.specs.List.{filter, range_with_len}
use Rattle.mix_session.proofs.ShowLemmas.{range-suc}

-- those that pass of four lists, appended one after the other
pub filter-pieces : {X : Type 0} (p : X → Bool) (xs ys zs rest a b c d e : List X) → a ≡ [] → b ≡ a ++ filter p xs → c ≡ b ++ filter p ys →
    d ≡ c ++ filter p zs → e ≡ d ++ filter p rest → e ≡ filter p (xs ++ ys ++ zs ++ rest)
filter-pieces p xs ys zs rest a b c d e none one two three four =
    let pieces : filter p (xs ++ ys ++ zs ++ rest) ≡ filter p xs ++ filter p ys ++ filter p zs ++ filter p rest =
    filter-append p (xs ++ ys ++ zs) rest
    ∙ ap (λ t. t ++ filter p rest) (filter-append p (xs ++ ys) zs ∙ ap (λ t. t ++ filter p zs) (filter-append p xs ys)) in
    rw (four, three, two, one, none) (sym pieces)

-- one more of a list of things
pub filter-next : {X : Type 0} (p : X → Bool) (xs : List X) (i : ℕ) (x : X) → i < length xs → x ≡ get_or xs i x →
    filter p (take i xs) ++ filter p (x ∷ []) ≡ filter p (take (i + 1) xs)
filter-next {X = X} p xs i x below e =
    ap (λ (y : X). filter p (take i xs) ++ filter p (y ∷ [])) e
    ∙ sym (rw (take_more xs i x below) (filter-append p (take i xs) (get_or xs i x ∷ [])))

-- one number more
pub filter-range : {X : Type 0} (p : X → Bool) (of : ℕ → X) (k : ℕ) →
    filter p (map of (range_with_len 0 k)) ++ filter p (of k ∷ []) ≡ filter p (map of (range_with_len 0 (k + 1)))
filter-range p of k =
    let here : 0 + k ≡ k = omega arith in
    rw add-one (sym (ap (λ is. filter p (map of is)) (range-suc 0 k) ∙ ap (filter p) (map-append of (range_with_len 0 k) ((0 + k) ∷ []))
    ∙ filter-append p (map of (range_with_len 0 k)) (of (0 + k) ∷ []) ∙ ap (λ (i : ℕ). filter p (map of (range_with_len 0 k)) ++ filter p (of i ∷ [])) here))

-- what one number more gives
pub flat_map-range : {Y : Type 0} (f : ℕ → List Y) (k : ℕ) → flat_map f (range_with_len 0 k) ++ f k ≡ flat_map f (range_with_len 0 (k + 1))
flat_map-range f k =
    let here : 0 + k ≡ k = omega arith in
    rw add-one (sym (ap (flat_map f) (range-suc 0 k) ∙ flat_map-append f (range_with_len 0 k) ((0 + k) ∷ []) ∙ ap (λ t. flat_map f (range_with_len 0 k) ++ t) (append-nil (f (0 + k)))
    ∙ ap (λ (i : ℕ). flat_map f (range_with_len 0 k) ++ f i) here))
