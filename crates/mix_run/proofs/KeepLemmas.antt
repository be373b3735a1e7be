-- One part more of a deck: what is written so far and what is left are the whole.
use Rattle.std.proofs.Common.{◌≡◌, ◌<◌, ◌≤◌, ◌+◌, ◌-◌, ℕ, zero, suc, Bool, true, false, true≢false, if◌then◌else◌, List, [], ◌∷◌, ◌++◌, refl, sym, ap, ◌∙◌, arith, append_assoc, drop, length, flat_map, slice_index_or}
use Rattle.std.proofs.lemmas.List.{append-nil}
use Rattle.std.specs.List.{range_with_len}

-- the text of the next number, and what is left then
pub numbers-next : (f : ℕ → List ℕ) (at count : ℕ) → at < count →
    flat_map f (range_with_len at (count - at)) ≡ f at ++ flat_map f (range_with_len (at + 1) (count - (at + 1)))
numbers-next f at count lt = let more : count - at ≡ suc (count - (at + 1)) = omega arith in rw more refl

pub numbers-none : (f : ℕ → List ℕ) (at count : ℕ) → count ≤ at → flat_map f (range_with_len at (count - at)) ≡ []
numbers-none f at count le = let none : count - at ≡ 0 = omega arith in rw none refl

-- the text of the next item, and what is left then
pub items-next : {X : Type 0} (f : X → List ℕ) (xs : List X) (at : ℕ) (d x : X) → at < length xs → x ≡ slice_index_or xs at d →
    flat_map f (drop at xs) ≡ f x ++ flat_map f (drop (at + 1) xs)
items-next f [] at d x lt e = absurd (omega arith)
items-next f (y ∷ ys) zero d x lt e = ap (λ z. f z ++ flat_map f ys) (sym e)
items-next f (y ∷ ys) (suc at) d x lt e =
    let next : suc at + 1 ≡ suc (at + 1) = omega arith in
    rw next (items-next f ys at d x (omega arith) e)

pub items-none : {X : Type 0} (f : X → List ℕ) (xs : List X) (at : ℕ) → length xs ≤ at → flat_map f (drop at xs) ≡ []
items-none f [] zero le = refl
items-none f [] (suc at) le = refl
items-none f (y ∷ ys) zero le = absurd (omega arith)
items-none f (y ∷ ys) (suc at) le = items-none f ys at (omega arith)

-- one text more
pub added-more : (text new said left more whole : List ℕ) → text ++ left ≡ whole → left ≡ said ++ more → new ≡ text ++ said → new ++ more ≡ whole
added-more text new said left more whole so_far parts added =
    ap (λ t. t ++ more) added ∙ append_assoc text said more ∙ ap (λ t. text ++ t) (sym parts) ∙ so_far

-- a text that is only added if that is asked for, and is not
pub added-not : (b : Bool) (text more : List ℕ) → b ≡ false → text ≡ text ++ (if b then more else [])
added-not true text more e = absurd (true≢false e)
added-not false text more e = sym (append-nil text)

-- no more
pub added-all : (text left whole : List ℕ) → text ++ left ≡ whole → left ≡ [] → text ≡ whole
added-all text left whole so_far none = sym (append-nil text) ∙ ap (λ t. text ++ t) (sym none) ∙ so_far
