-- One of many values written after the others.
use Rattle.std.proofs.Common.{ℕ, zero, suc, ◌+◌, ◌<◌, ◌≤◌, ◌≡◌, ◌++◌, [], ◌∷◌, length, ap, subst, refl, arith}
use Rattle.undo_core.specs.Pack.{KeptList}
use Rattle.mix_machine.specs.Prelude.{WorldState, Write, set, each, HasRoom, Wrote, Old}
use Rattle.mix_machine.proofs.WriteLemmas.{joined}

each-last : (n k m i : ℕ) (f : ℕ → Old) → m ≡ n + 1 → i ≡ k + n → each m k f ≡ each n k f ++ set (f i) ∷ []
each-last zero k m i f e g = let one : m ≡ 1 = omega arith in let same : i ≡ k = omega arith in rw (one, same) refl
each-last (suc n) k m i f e g =
    let more : m ≡ suc (suc n) = omega arith in
    rw more (ap (λ xs. set (f k) ∷ xs) (each-last n (k + 1) (suc n) i f (omega arith) (omega arith)))

pub length-each : (n j : ℕ) (f : ℕ → Old) → length (each n j f) ≡ n
length-each zero j f = refl
length-each (suc n) j f = ap suc (length-each n (j + 1) f)

pub each-written : (j : ℕ) (f : ℕ → Old) (o : Old) (w v u : WorldState) (ks ls ms : KeptList Old) → Wrote (each j 0 f) w v ks ls →
    Wrote (set o ∷ []) v u ls ms → o ≡ f j → Wrote (each (j + 1) 0 f) w u ks ms
each-written j f o w v u ks ls ms a b e =
    let one = subst (λ p. Wrote (set p ∷ []) v u ls ms) e b in
    rw (each-last j 0 (j + 1) j f refl (omega arith)) (joined (each j 0 f) (set (f j) ∷ []) w v u ks ls ms a one)

-- there is room for it
pub each-room : (size j : ℕ) (f : ℕ → Old) (x : Write) (w v : WorldState) (ks ls : KeptList Old) → HasRoom ks (each size 0 f) →
    Wrote (each j 0 f) w v ks ls → j < size → HasRoom ls (x ∷ [])
each-room size j f x w v ks ls h a l =
    let all = length-each size 0 f in
    let some = length-each j 0 f in
    let room = a.room in
    omega arith

-- the last one is written
pub each-done : (size j : ℕ) (f : ℕ → Old) (w v : WorldState) (ks ls : KeptList Old) → Wrote (each j 0 f) w v ks ls → j ≡ size →
    Wrote (each size 0 f) w v ks ls
each-done size j f w v ks ls a e = subst (λ n. Wrote (each n 0 f) w v ks ls) e a

-- the cell is there
pub cell-below : (at number j size : ℕ) → number ≡ j → j < size → at + size ≤ 4000 → at + number < 4000
cell-below at number j size e h l = omega arith
