-- Blocks that lie side by side in one list of words.
use Rattle.std.proofs.Common.{ℕ, zero, suc, ◌+◌, ◌-◌, ◌*◌, ◌≡◌, ◌<◌, ◌≤◌, ◌∙◌, List, [], ◌∷◌, ◌++◌, Some, None, length, take, drop, set, get_or, replicate, refl, ap, sym, arith}
use Rattle.std.specs.List.{slice_get}
use Rattle.std.proofs.lemmas.List.{take-append-le, drop-append-le, take_all, nil_from_length, drop-drop, take-take, drop-take, take-set-le, drop-set-lt, drop-set-add, get_or-take, get_or-drop, length-drop, length-append, length-replicate, take-replicate, drop-replicate}
use Rattle.std.proofs.lemmas.Option.{slice_get-get_or, slice_get_past}
use Rattle.mix_word.specs.Word.{WordValue, zero_word}
use Rattle.mix_machine.specs.units.Unit.{blocks_in}

pub length-blocks_in : (n size : ℕ) (ws : List WordValue) → length (blocks_in n size ws) ≡ n
length-blocks_in zero size ws = refl
length-blocks_in (suc n) size ws = ap suc (length-blocks_in n size (drop size ws))

take-set-lt : (n : ℕ) (ws : List WordValue) (i : ℕ) (v : WordValue) → i < n → take n (set ws i v) ≡ set (take n ws) i v
take-set-lt zero ws i v h = absurd (omega arith)
take-set-lt (suc n) [] i v h = refl
take-set-lt (suc n) (w ∷ ws) zero v h = refl
take-set-lt (suc n) (w ∷ ws) (suc i) v h = ap (λ vs. w ∷ vs) (take-set-lt n ws i v (omega arith))

next : (i size : ℕ) → size + i * size ≡ suc i * size
next i size = grind arith

-- block i begins after as many words as the blocks before it have
pub block-in : (n size i : ℕ) (ws : List WordValue) → i < n → get_or (blocks_in n size ws) i [] ≡ take size (drop (i * size) ws)
block-in zero size i ws h = absurd (omega arith)
block-in (suc n) size zero ws h = let none : 0 * size ≡ 0 = grind arith in rw none refl
block-in (suc n) size (suc i) ws h =
    block-in n size i (drop size ws) (omega arith)
    ∙ ap (take size) (drop-drop (i * size) size ws ∙ ap (λ k. drop k ws) (next i size))

pub block-there : (n size i : ℕ) (ws : List WordValue) → i < n →
    slice_get (blocks_in n size ws) i ≡ Some (take size (drop (i * size) ws))
block-there n size i ws h =
    slice_get-get_or (blocks_in n size ws) i [] (rw (length-blocks_in n size ws) h) ∙ ap Some (block-in n size i ws h)

pub block-past : (n size i : ℕ) (ws : List WordValue) → n ≤ i → slice_get (blocks_in n size ws) i ≡ None
block-past n size i ws h = slice_get_past (blocks_in n size ws) i (rw (length-blocks_in n size ws) h)

pub word-in : (n size i j : ℕ) (ws : List WordValue) → i < n → j < size →
    get_or (get_or (blocks_in n size ws) i []) j zero_word ≡ get_or ws (i * size + j) zero_word
word-in n size i j ws h k =
    rw (block-in n size i ws h) (get_or-take size (drop (i * size) ws) j zero_word k ∙ get_or-drop (i * size) ws j zero_word)

-- the slice of a list that is a block
pub block-read : (n size i : ℕ) (ws items : List WordValue) (a b : ℕ) → i < n → a ≡ i → b ≡ size → ws ≡ items →
    Some (take (a * b + b - a * b) (drop (a * b) ws)) ≡ slice_get (blocks_in n size items) i
block-read n size i ws items a b h e f g =
    let len : i * size + size - i * size ≡ size = omega arith in
    rw (e, f, g, len) (sym (block-there n size i items h))

-- one word set
pub blocks-set : (n size i j : ℕ) (ws : List WordValue) (v : WordValue) → i < n → j < size →
    blocks_in n size (set ws (i * size + j) v) ≡ set (blocks_in n size ws) i (set (get_or (blocks_in n size ws) i []) j v)
blocks-set zero size i j ws v h k = absurd (omega arith)
blocks-set (suc n) size zero j ws v h k =
    let at : 0 * size + j ≡ j = grind arith in
    rw (at, take-set-lt size ws j v k, drop-set-lt size ws j v k) refl
blocks-set (suc n) size (suc i) j ws v h k =
    let at : suc i * size + j ≡ size + (i * size + j) = grind arith in
    rw (at, take-set-le size ws (size + (i * size + j)) v (omega arith), drop-set-add size ws (i * size + j) v)
    (ap (λ bs. take size ws ∷ bs) (blocks-set n size i j (drop size ws) v (omega arith) k))

-- blocks after other ones
pub blocks-append : (n m size : ℕ) (ws vs : List WordValue) → length ws ≡ n * size →
    blocks_in (n + m) size (ws ++ vs) ≡ blocks_in n size ws ++ blocks_in m size vs
blocks-append zero m size ws vs h =
    let none : length ws ≡ 0 = grind arith in
    let same : 0 + m ≡ m = omega arith in
    rw (nil_from_length ws none, same) refl
blocks-append (suc n) m size ws vs h =
    let some : size ≤ length ws = grind arith in
    let rest : length (drop size ws) ≡ n * size = simp length-drop (grind arith) in
    let more : suc n + m ≡ suc (n + m) = omega arith in
    rw (more, take-append-le size ws vs some, drop-append-le size ws vs some)
    (ap (λ bs. take size ws ∷ bs) (blocks-append n m size (drop size ws) vs rest))

blocks-zero : (n size : ℕ) → blocks_in n size (replicate (n * size) zero_word) ≡ replicate n (replicate size zero_word)
blocks-zero zero size = refl
blocks-zero (suc n) size =
    let more : suc n * size ≡ size + n * size = sym (next n size) in
    let rest : size + n * size - size ≡ n * size = omega arith in
    rw (more, take-replicate size (size + n * size) zero_word (omega arith), drop-replicate size (size + n * size) zero_word, rest)
    (ap (λ bs. replicate size zero_word ∷ bs) (blocks-zero n size))

blocks-one : (size : ℕ) (block : List WordValue) → length block ≡ size → blocks_in 1 size block ≡ block ∷ []
blocks-one size block h = ap (λ b. b ∷ []) (take_all size block (omega arith))

-- so many blocks of +0 and one block more
pub blocks-more : (n gap size : ℕ) (ws block : List WordValue) → length ws ≡ n * size → length block ≡ size →
    blocks_in (n + (gap + 1)) size (ws ++ replicate (gap * size) zero_word ++ block)
    ≡ blocks_in n size ws ++ replicate gap (replicate size zero_word) ++ block ∷ []
blocks-more n gap size ws block h k =
    let at : n + (gap + 1) ≡ n + gap + 1 = omega arith in
    let len : length (ws ++ replicate (gap * size) zero_word) ≡ (n + gap) * size =
    simp (length-append, length-replicate) (grind arith) in
    rw (
      at,
      blocks-append (n + gap) 1 size (ws ++ replicate (gap * size) zero_word) block len,
      blocks-append n gap size ws (replicate (gap * size) zero_word) h,
      blocks-zero gap size,
      blocks-one size block k,
    ) refl

-- only the first blocks
pub blocks-take : (n size k : ℕ) (ws : List WordValue) → k ≤ n → blocks_in k size (take (k * size) ws) ≡ take k (blocks_in n size ws)
blocks-take n size zero ws h = refl
blocks-take zero size (suc k) ws h = absurd (omega arith)
blocks-take (suc n) size (suc k) ws h =
    let more : suc k * size ≡ size + k * size = sym (next k size) in
    rw (more, take-take size (size + k * size) ws (omega arith), drop-take size (k * size) ws)
    (ap (λ bs. take size ws ∷ bs) (blocks-take n size k (drop size ws) (omega arith)))

pub ruleset blocks = (length-blocks_in, block-there, block-past)
