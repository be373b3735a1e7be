-- What is written of bytes up to the first that is not shown as it is.
use Rattle.std.proofs.Common.{◌≡◌, ◌∙◌, ◌≤◌, ◌<◌, ◌+◌, ◌-◌, ℕ, zero, suc, Bool, true, false, cond, List, [], ◌∷◌, length, take, refl, sym, ap, subst, arith, Option, nat_lt}
use Rattle.std.specs.Io.KnownBytes.{Appends}
use Rattle.mix_shown.specs.declared.character.Among.TheVariants.{Text}
use Rattle.mix_shown.specs.Character.{left_at, plain_front, shown_from}

same-next : (v : Bool) (byte m n : ℕ) (xs ys : List ℕ) → (n ≤ m → take n xs ≡ take n ys) → suc n ≤ cond v (m + 1) 0
    → byte ∷ take n ys ≡ cond v byte 63 ∷ take n xs
same-next true byte m n xs ys h l = ap (λ rest. byte ∷ rest) (sym (h (omega (arith, l))))
same-next false byte m n xs ys h l = absurd (omega (arith, l))

front-same : (left : ℕ) (bytes : List ℕ) (n : ℕ) → n ≤ plain_front left bytes → take n bytes ≡ take n (shown_from Text left bytes)
front-same left [] n l = refl
front-same left (byte ∷ rest) zero l = refl
front-same left (byte ∷ rest) (suc n) l =
    let next : ℕ = left_at Text left (byte ∷ rest) - 1 in
    same-next (nat_lt 0 (left_at Text left (byte ∷ rest))) byte (plain_front next rest) n (shown_from Text next rest) rest
    (λ k. sym (front-same next rest n k)) l

mask-next : (v : Bool) (byte m : ℕ) → cond v (m + 1) 0 ≡ 0 → 63 ≡ cond v byte 63
mask-next true byte m none = absurd (omega (arith, none))
mask-next false byte m none = refl

pub mask-same : (left : ℕ) (bytes : List ℕ) (n : ℕ) → 0 < length bytes → plain_front left bytes ≡ 0 → n ≤ 1
    → take n (63 ∷ []) ≡ take n (shown_from Text left bytes)
mask-same left [] n some none l = absurd (omega (arith, some))
mask-same left (byte ∷ rest) zero some none l = refl
mask-same left (byte ∷ rest) (suc zero) some none l =
    ap (λ first. first ∷ [])
    (mask-next (nat_lt 0 (left_at Text left (byte ∷ rest))) byte (plain_front (left_at Text left (byte ∷ rest) - 1) rest) none)
mask-same left (byte ∷ rest) (suc (suc n)) some none l = absurd (omega (arith, l))

take-take : (n m : ℕ) (bytes : List ℕ) → n ≤ m → take n (take m bytes) ≡ take n bytes
take-take zero m bytes l = refl
take-take (suc n) zero bytes l = absurd (omega (arith, l))
take-take (suc n) (suc m) [] l = refl
take-take (suc n) (suc m) (byte ∷ rest) l = ap (λ more. byte ∷ more) (take-take n m rest (omega (arith, l)))

take-length : (n : ℕ) (bytes : List ℕ) → length (take n bytes) ≤ n
take-length zero bytes = omega arith
take-length (suc n) [] = omega arith
take-length (suc n) (byte ∷ rest) = omega (arith, take-length n rest)

pub cut-same : (left : ℕ) (bytes : List ℕ) (front n : ℕ) → front ≡ plain_front left bytes → n ≤ length (take front bytes)
    → take n (take front bytes) ≡ take n (shown_from Text left bytes)
cut-same left bytes front n is l =
    take-take n front bytes (omega (arith, take-length front bytes, l))
    ∙ front-same left bytes n (omega (arith, take-length front bytes, l, is))

pub ruleset fronts = (cut-same, mask-same)

pub given-written : (old new : Option (List ℕ)) (given shown : List ℕ) (n : ℕ) → ((m : ℕ) → m ≤ length given → take m given ≡ take m shown)
    → n ≤ length given → Appends old new (take n given) → Appends old new (take n shown)
given-written old new given shown n same l = subst (Appends old new) (same n l)

pub ruleset written = (given-written)
