-- Facts of cells with their words, of which the first that has none refuses all.
use Rattle.std.proofs.Common.{◌≡◌, ℕ, zero, suc, ◌+◌, ◌-◌, ◌/◌, ◌<◌, List, [], ◌∷◌, ◌++◌, Result, Ok, Err, refl, sym, ap, ◌∙◌, arith}
use Rattle.std.proofs.lemmas.Bool.{ne_eqb}
use Rattle.std.specs.List.{range_with_len}
use Rattle.dap_asked.proofs.ListLemmas.{range-suc}
use Rattle.dap_points.specs.Written.{cells_of, cells_with}
use Rattle.dap_asked.specs.declared.fault.Fault.{Fault}
use Rattle.mix_word.specs.Word.{WordValue}
use Rattle.mixal_text.specs.Steps.{◌>>=◌}

abbrev Cells : Type 0
Cells = List (ℕ × WordValue)

-- those of a list after others
abbrev after : Cells → Result Cells Fault → Result Cells Fault
after done more = more >>= (λ rest. Ok (done ++ rest))

same : (x : Result Cells Fault) → x ≡ after [] x
same (Ok x) = refl
same (Err e) = refl

one_before : (c : ℕ) (v : WordValue) (x y : Result Cells Fault) →
    ((x >>= (λ done. after done y)) >>= (λ more. Ok ((c, v) ∷ more))) ≡ ((x >>= (λ more. Ok ((c, v) ∷ more))) >>= (λ done. after done y))
one_before c v (Err e) y = refl
one_before c v (Ok x) (Err e) = refl
one_before c v (Ok x) (Ok y) = refl

step : (c : ℕ) (w : Result WordValue Fault) (x y both : Result Cells Fault) → both ≡ (x >>= (λ done. after done y)) →
    (w >>= (λ v. both >>= (λ more. Ok ((c, v) ∷ more)))) ≡ ((w >>= (λ v. x >>= (λ more. Ok ((c, v) ∷ more)))) >>= (λ done. after done y))
step c (Err e) x y both is = refl
step c (Ok v) x y both is = ap (λ (r : Result Cells Fault). r >>= (λ more. Ok ((c, v) ∷ more))) is ∙ one_before c v x y

cells-append : (word : ℕ → Result WordValue Fault) (front rest : List ℕ) → cells_with word (front ++ rest) ≡ (cells_with word front >>= (λ done. after done (cells_with word rest)))
cells-append word [] rest = same (cells_with word rest)
cells-append word (c ∷ cs) rest = step c (word c) (cells_with word cs) (cells_with word rest) (cells_with word (cs ++ rest)) (cells-append word cs rest)

-- after those that have words: one more that has
cells-then : (word : ℕ → Result WordValue Fault) (front rest : List ℕ) (done : Cells) → cells_with word front ≡ Ok done → cells_with word (front ++ rest) ≡ after done (cells_with word rest)
cells-then word front rest done is = cells-append word front rest ∙ ap (λ (r : Result Cells Fault). r >>= (λ xs. after xs (cells_with word rest))) is

abbrev cell_alone : ℕ → Result WordValue Fault → Result Cells Fault
cell_alone c (Err e) = Err e
cell_alone c (Ok v) = Ok ((c, v) ∷ [])

alone : (word : ℕ → Result WordValue Fault) (c : ℕ) (w : Result WordValue Fault) → (w >>= (λ value. cells_with word [] >>= (λ more. Ok ((c, value) ∷ more)))) ≡ cell_alone c w
alone word c (Err e) = refl
alone word c (Ok v) = refl

pub cells-next : (word : ℕ → Result WordValue Fault) (a k n : ℕ) (done : Cells) (v : WordValue) → n ≡ a + k → cells_with word (range_with_len a k) ≡ Ok done → word n ≡ Ok v
    → cells_with word (range_with_len a (k + 1)) ≡ Ok (done ++ (n, v) ∷ [])
cells-next word a k n done v at so_far is =
    let next : k + 1 ≡ suc k = omega arith in
    rw next (ap (cells_with word) (range-suc a k) ∙ cells-then word (range_with_len a k) ((a + k) ∷ []) done so_far
    ∙ ap (λ (m : ℕ). after done (cells_with word (m ∷ []))) (sym at) ∙ ap (after done) (alone word n (word n) ∙ ap (cell_alone n) is))

-- and one that has none
refused_here : (c : ℕ) (w : Result WordValue Fault) (rest : Result Cells Fault) (e : Fault) → w ≡ Err e → (w >>= (λ x. rest >>= (λ more. Ok ((c, x) ∷ more)))) ≡ Err e
refused_here c w rest e is = ap (λ (r : Result WordValue Fault). r >>= (λ x. rest >>= (λ more. Ok ((c, x) ∷ more)))) is

range-split : (a k m : ℕ) → range_with_len a (k + m) ≡ range_with_len a k ++ range_with_len (a + k) m
range-split a zero m =
    let all : zero + m ≡ m = omega arith in let first : a ≡ a + zero = omega arith in ap (range_with_len a) all ∙ ap (λ (i : ℕ). range_with_len i m) first
range-split a (suc k) m =
    let all : suc k + m ≡ suc (k + m) = omega arith in
    let first : (a + 1) + k ≡ a + suc k = omega arith in
    ap (range_with_len a) all ∙ ap (λ (xs : List ℕ). a ∷ xs) (range-split (a + 1) k m ∙ ap (λ (i : ℕ). range_with_len (a + 1) k ++ range_with_len i m) first)

pub cells-refused : (word : ℕ → Result WordValue Fault) (a k n count : ℕ) (done : Cells) (e : Fault) → n ≡ a + k → k < count
    → cells_with word (range_with_len a k) ≡ Ok done → word n ≡ Err e → cells_with word (range_with_len a count) ≡ Err e
cells-refused word a k n count done e at within so_far is =
    let left : count ≡ k + suc (count - k - 1) = omega arith in
    let rest : List ℕ = range_with_len (n + 1) (count - k - 1) in
    ap (λ (m : ℕ). cells_with word (range_with_len a m)) left ∙ ap (cells_with word) (range-split a k (suc (count - k - 1)))
    ∙ ap (λ (m : ℕ). cells_with word (range_with_len a k ++ range_with_len m (suc (count - k - 1)))) (sym at)
    ∙ cells-then word (range_with_len a k) (n ∷ rest) done so_far ∙ ap (after done) (refused_here n (word n) (cells_with word rest) e is)

-- the cells of one byte or more
pub cells_of-some : (start count : ℕ) → 0 < count → cells_of start count ≡ range_with_len (start / 6) ((start + count - 1) / 6 + 1 - start / 6)
cells_of-some start count some = rw (ne_eqb count 0 (omega arith)) refl
