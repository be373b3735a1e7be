-- The words of MOVE copied, and those that they replace kept.
use Rattle.std.proofs.Common.{ℕ, zero, suc, ◌+◌, ◌-◌, ◌≤◌, ◌<◌, ◌≡◌, ◌++◌, ◌∙◌, List, [], ◌∷◌, length, take, drop, get_or, slice_set, slice_index_or, ap, sym, refl, arith}
use Rattle.std.specs.List.{copy_within}
use Rattle.std.proofs.Math.Seq.{paste, paste-zero, paste-suc, drop-paste, length_paste_head}
use Rattle.std.proofs.lemmas.List.{length-set, length-take-le, length-drop, drop-set-lt, drop_more, get_or_append_left, get_or-take, get_or-drop}
use Rattle.undo_core.specs.Pack.{KeptList}
use Rattle.mix_word.specs.Word.{WordValue, zero_word}
use Rattle.mix_machine.specs.Prelude.{WorldState, IsWorld, cell_of, cell_values, with_copies, HasRoom, Wrote, Old, Cell}
use Rattle.mix_machine.specs.Write.{set, written, write_all, kept_by, copies}
use Rattle.mix_machine.proofs.WriteLemmas.{length-copies}

-- one word copied after the others
pub copied-last : (n from to : ℕ) (cells : List WordValue) (m p q : ℕ) → m ≡ n + 1 → p ≡ to + n → q ≡ from + n →
    with_copies m from to cells ≡ slice_set (with_copies n from to cells) p (slice_index_or (with_copies n from to cells) q zero_word)
copied-last zero from to cells m p q e ep eq =
    let one : m ≡ 1 = omega arith in
    let into : p ≡ to = omega arith in
    let out : q ≡ from = omega arith in
    rw (one, into, out) refl
copied-last (suc n) from to cells m p q e ep eq =
    let more : m ≡ suc (suc n) = omega arith in
    rw more (copied-last n (from + 1) (to + 1) (slice_set cells to (slice_index_or cells from zero_word)) (suc n) p q (omega arith) (omega arith) (omega arith))

-- words copied at once: what is read for each of them is what stood there before
copied-once : (n from to : ℕ) (cells : List WordValue) → from + n ≤ length cells → to + n ≤ length cells →
    ((j : ℕ) → j < n → get_or (paste cells to (drop from cells) j) (from + j) zero_word ≡ get_or cells (from + j) zero_word) →
    with_copies n from to cells ≡ paste cells to (drop from cells) n
copied-once zero from to cells there into read = paste-zero cells to (drop from cells)
copied-once (suc n) from to cells there into read =
    let words = drop from cells in
    let left : length words ≡ length cells - from = length-drop from cells in
    let before = copied-once n from to cells (omega (arith, there)) (omega (arith, into)) (λ j below. read j (omega (arith, below))) in
    let word : get_or (with_copies n from to cells) (from + n) zero_word ≡ get_or words n zero_word =
    ap (λ (cs : List WordValue). get_or cs (from + n) zero_word) before ∙ read n (omega arith) ∙ sym (get_or-drop from cells n zero_word) in
    copied-last n from to cells (suc n) (to + n) (from + n) (omega arith) refl refl
    ∙ ap (slice_set (with_copies n from to cells) (to + n)) word
    ∙ ap (λ (cs : List WordValue). slice_set cs (to + n) (get_or words n zero_word)) before
    ∙ paste-suc cells to words n zero_word (omega (arith, into)) (omega (arith, left, there))

as-within : (n from to : ℕ) (cells : List WordValue) → with_copies n from to cells ≡ paste cells to (drop from cells) n →
    with_copies n from to cells ≡ copy_within cells from (from + n) to
as-within n from to cells is =
    let count : n ≡ from + n - from = omega arith in
    is ∙ ap (paste cells to (drop from cells)) count

-- words copied to where they are or before it
pub copied-down : (n from to : ℕ) (cells : List WordValue) → from + n ≤ length cells → to ≤ from →
    with_copies n from to cells ≡ copy_within cells from (from + n) to
copied-down n from to cells there down =
    as-within n from to cells (copied-once n from to cells there (omega (arith, there, down)) (λ j below.
    let words = drop from cells in
    let left : length words ≡ length cells - from = length-drop from cells in
    let at : from + j ≡ to + j + (from - to) = omega (arith, down) in
    ap (λ k. get_or (paste cells to words j) k zero_word) at
    ∙ sym (get_or-drop (to + j) (paste cells to words j) (from - to) zero_word)
    ∙ ap (λ (cs : List WordValue). get_or cs (from - to) zero_word) (drop-paste cells to words j (omega (arith, there, down)) (omega (arith, left, there, below)))
    ∙ get_or-drop (to + j) cells (from - to) zero_word
    ∙ ap (λ k. get_or cells k zero_word) (sym at)))

-- words copied past the last of them
pub copied-past : (n from to : ℕ) (cells : List WordValue) → to + n ≤ length cells → from + n ≤ to →
    with_copies n from to cells ≡ copy_within cells from (from + n) to
copied-past n from to cells into past =
    as-within n from to cells (copied-once n from to cells (omega (arith, into, past)) into (λ j below.
    let words = drop from cells in
    let left : length words ≡ length cells - from = length-drop from cells in
    let few : length (take to cells) ≡ to = length-take-le to cells (omega (arith, into)) in
    let all : length (take to cells ++ take j words) ≡ to + j = length_paste_head cells to words j (omega (arith, into)) (omega (arith, left, into, past, below)) in
    get_or_append_left (take to cells ++ take j words) (drop (to + j) cells) zero_word (from + j) (omega (arith, all, past, below))
    ∙ get_or_append_left (take to cells) (take j words) zero_word (from + j) (omega (arith, few, past, below))
    ∙ get_or-take to cells (from + j) zero_word (omega (arith, past, below))))

-- the state after them is that of the writes
pub copied-state : (n from to : ℕ) (w : WorldState) → write_all w (copies n from to w) ≡ record w { cells = with_copies n from to w.cells }
copied-state zero from to w = refl
copied-state (suc n) from to w = copied-state n (from + 1) (to + 1) (written w (set (Cell to (cell_of w from))))

-- no word is copied into a cell into which another one was copied before, so what stands in the cells at first is kept
copied-kept : (n from to : ℕ) (w : WorldState) → to + n ≤ length w.cells → kept_by w (copies n from to w) ≡ cell_values to (take n (drop to w.cells))
copied-kept zero from to w h = refl
copied-kept (suc n) from to w h =
    let v = cell_of w from in
    let len : length (slice_set w.cells to v) ≡ length w.cells = length-set w.cells to v in
    let rest = copied-kept n (from + 1) (to + 1) (written w (set (Cell to v))) (omega (arith, len, h)) in
    let after : drop (to + 1) (slice_set w.cells to v) ≡ drop (to + 1) w.cells = drop-set-lt (to + 1) w.cells to v (omega arith) in
    let all : drop to w.cells ≡ cell_of w to ∷ drop (to + 1) w.cells = drop_more w.cells to zero_word (omega (arith, h)) in
    ap (λ (os : List Old). Cell to (cell_of w to) ∷ os) (rest ∙ ap (λ (cells : List WordValue). cell_values (to + 1) (take n cells)) after)
    ∙ sym (ap (λ (cells : List WordValue). cell_values to (take (suc n) cells)) all)

pub length-cell_values : (place : ℕ) (ws : List WordValue) → length (cell_values place ws) ≡ length ws
length-cell_values place [] = refl
length-cell_values place (w ∷ ws) = ap suc (length-cell_values (place + 1) ws)

-- the state with other cells
pub same-cells : (v w : WorldState) (cells others : List WordValue) → v ≡ w → cells ≡ others → record v { cells = cells } ≡ record w { cells = others }
same-cells v w cells others e g = rw (e, g) refl

length-take-few : (n : ℕ) (ws : List WordValue) → length (take n ws) ≤ n
length-take-few zero ws = omega arith
length-take-few (suc n) [] = omega arith
length-take-few (suc n) (w ∷ ws) = omega (arith, length-take-few n ws)

-- there is room for what they replace
pub copy-room : (n from to m at : ℕ) (w : WorldState) (cells : List WordValue) (values : List Old) (ks : KeptList Old) → HasRoom ks (copies n from to w) →
    m ≡ n → values ≡ cell_values to (take (at + m - at) (drop at cells)) → length values ≤ ks.room
copy-room n from to m at w cells values ks h e is =
    let count = length-copies n from to w in
    let few = length-take-few (at + m - at) (drop at cells) in
    let len = ap length is ∙ length-cell_values to (take (at + m - at) (drop at cells)) in
    omega (arith, count, few, len, e, h)

-- the state after words are copied
pub copy-stands : (n from to m out at : ℕ) (w v u : WorldState) (cells copied : List WordValue) → m ≡ n → out ≡ from → at ≡ to → v ≡ w → cells ≡ v.cells →
    copied ≡ with_copies m out at cells → u ≡ record v { cells = copied } → u ≡ write_all w (copies n from to w)
copy-stands n from to m out at w v u cells copied em eo ea ev ec done after =
    let old : cells ≡ w.cells = ec ∙ ap (λ (s : WorldState). s.cells) ev in
    let cells_after : copied ≡ with_copies n from to w.cells =
    done ∙ ap (λ k. with_copies k out at cells) em ∙ ap (λ p. with_copies n p at cells) eo ∙ ap (λ p. with_copies n from p cells) ea
    ∙ ap (with_copies n from to) old in
    after ∙ same-cells v w copied (with_copies n from to w.cells) ev cells_after ∙ sym (copied-state n from to w)

-- the words copied, those that they replace kept together
pub copy-wrote : (n from to m out at : ℕ) (w v u : WorldState) (cells copied : List WordValue) (values : List Old) (ks ls : KeptList Old) →
    to + n ≤ 4000 → IsWorld w → m ≡ n → out ≡ from → at ≡ to → v ≡ w → cells ≡ v.cells →
    values ≡ cell_values to (take (at + m - at) (drop at cells)) → ls.items ≡ ks.items ++ values → ks.room ≤ ls.room + length values →
    copied ≡ with_copies m out at cells → u ≡ record v { cells = copied } → Wrote (copies n from to w) w u ks ls
copy-wrote n from to m out at w v u cells copied values ks ls within h em eo ea ev ec is items room done after =
    let count = length-copies n from to w in
    let size : at + m - at ≡ n = omega (arith, em, ea) in
    let all : length w.cells ≡ 4000 = h.cells in
    let there : to + n ≤ length w.cells = omega (arith, all, within) in
    let old : cells ≡ w.cells = ec ∙ ap (λ (s : WorldState). s.cells) ev in
    let kept : values ≡ cell_values to (take n (drop to w.cells)) =
    is ∙ ap (λ k. cell_values to (take k (drop at cells))) size ∙ ap (λ p. cell_values to (take n (drop p cells))) ea
    ∙ ap (λ (cs : List WordValue). cell_values to (take n (drop to cs))) old in
    let few : length values ≡ n =
    ap length kept ∙ length-cell_values to (take n (drop to w.cells))
    ∙ length-take-le n (drop to w.cells) (omega (arith, there, length-drop to w.cells)) in
    record {
      state = copy-stands n from to m out at w v u cells copied em eo ea ev ec done after;
      kept = items ∙ ap (λ (os : List Old). ks.items ++ os) (kept ∙ sym (copied-kept n from to w there));
      room = omega (arith, count, room, few);
    }
