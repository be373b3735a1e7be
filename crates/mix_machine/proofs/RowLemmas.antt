-- A row of cells says the values of its cells, and putting its words back puts these back.
use Rattle.std.proofs.Common.{ℕ, zero, suc, true, nat_lt, ◌≡◌, ◌+◌, ◌-◌, ◌*◌, ◌%◌, ◌<◌, ◌≤◌, ◌∙◌, List, [], ◌∷◌, ◌++◌, length, length-append, append_assoc, take, drop, get_or, reverse, Option, None, Some, IsSome, ap, subst, sym, refl, arith}
use Rattle.std.specs.Option.{option_and_then}
use Rattle.std.proofs.lemmas.Bool.Decides.{nat_tests}
use Rattle.std.proofs.lemmas.List.{drop-append-le, length-take-le, length-drop, length-map, reverse-append, take-append-drop, take_all, take_more, take_at, drop_at, map_push}
use Rattle.undo_core.specs.Prelude.{newest_part, put_back}
use Rattle.mix_word.specs.Word.{WordValue}
use Rattle.mix_machine.specs.Prelude.{WorldState, put_value, set_value, is_clock, cell_values, words_of, with_words, IsRow, Restored, Old, Anchor, header_of, last_of, last_value, long_word, said, value_by}
use Rattle.mix_machine.specs.declared.old.Old.TheVariants as old
use Rattle.mix_machine.specs.declared.pack.kind.Kind.TheVariants as kind
use Rattle.mix_machine.proofs.CopyLemmas.{length-cell_values}
use Rattle.mix_machine.proofs.PackLemmas.{said-last, row-header, put-alone}
use Rattle.mix_machine.proofs.PartLemmas.{part-last, part-cells, part-one}
use Rattle.mix_machine.proofs.SizeLemmas.{last-header}

-- the header of a row of one cell
lone-header : (n place bits : ℕ) (a : Anchor) (us : List ℕ) → n % 4096 ≡ place → place < 4000 → n < 8192 →
    value_by kind.Row n a (bits ∷ us) ≡ Some (last_of (old.Cell place (long_word bits)) a us)
lone-header n place bits a us is cell few =
    let test : nat_lt place 4000 ≡ true = grind (arith, nat_tests) in
    let alone : nat_lt n 8192 ≡ true = grind (arith, nat_tests) in
    rw (is, test, alone) refl

-- the last of the values of cells
values-last : (ws : List WordValue) (place : ℕ) (w : WordValue) (p : ℕ) → p ≡ place + length ws →
    cell_values place (ws ++ w ∷ []) ≡ cell_values place ws ++ old.Cell p w ∷ []
values-last [] place w p e = let at : p ≡ place = omega arith in rw at refl
values-last (v ∷ ws) place w p e = ap (λ (os : List Old). old.Cell place v ∷ os) (values-last ws (place + 1) w p (omega arith))

-- what a row says
said-row : (n place m : ℕ) (a : Anchor) (rest ws : List ℕ) → length ws ≡ n + 1 → place + n + 1 ≤ 4000 → m ≡ (n + 1) * 4096 + (place + n) →
    said a ((rest ++ ws) ++ header_of kind.Row m ∷ []) ≡ said a rest ++ cell_values place (words_of ws)
said-row zero place m a rest [] len cells e = absurd (omega (arith, len))
said-row zero place m a rest (w ∷ []) len cells e =
    let h = header_of kind.Row m in
    let at : m % 4096 ≡ place = omega (arith, e, cells) in
    let backwards : reverse ((rest ++ w ∷ []) ++ h ∷ []) ≡ h ∷ w ∷ reverse rest =
    reverse-append (rest ++ w ∷ []) (h ∷ []) ∙ ap (λ (us : List ℕ). h ∷ us) (reverse-append rest (w ∷ [])) in
    said-last ((rest ++ w ∷ []) ++ h ∷ []) rest a a (old.Cell place (long_word w))
    (ap (last_value a) backwards ∙ last-header kind.Row m a (w ∷ reverse rest)
    ∙ lone-header m place w a (reverse rest) at (omega (arith, cells)) (omega (arith, e, cells)))
said-row zero place m a rest (w ∷ x ∷ ws) len cells e = absurd (omega (arith, len))
said-row (suc n) place m a rest ws len cells e =
    let h = header_of kind.Row m in
    let front = take (n + 1) ws in
    let w = get_or ws (n + 1) 0 in
    let before = rest ++ front in
    let p = place + n + 1 in
    let value = old.Cell p (long_word w) in
    let shorter = header_of kind.Row (m - 4097) in
    let ends : ws ≡ front ++ w ∷ [] = sym (take_all (n + 1 + 1) ws (omega (arith, len))) ∙ take_more ws (n + 1) 0 (omega (arith, len)) in
    let fewer : length front ≡ n + 1 = length-take-le (n + 1) ws (omega (arith, len)) in
    let all : rest ++ ws ≡ before ++ w ∷ [] = ap (λ (us : List ℕ). rest ++ us) ends ∙ sym (append_assoc rest front (w ∷ [])) in
    let backwards : reverse ((rest ++ ws) ++ h ∷ []) ≡ h ∷ w ∷ reverse before =
    reverse-append (rest ++ ws) (h ∷ []) ∙ ap (λ (us : List ℕ). h ∷ reverse us) all ∙ ap (λ (us : List ℕ). h ∷ us) (reverse-append before (w ∷ [])) in
    let place_of : m % 4096 ≡ p = omega (arith, e, cells) in
    let read = row-header m p w shorter a (reverse before) place_of (omega (arith, cells)) (omega (arith, e)) refl in
    let left : reverse (before ++ shorter ∷ []) ≡ shorter ∷ reverse before = reverse-append before (shorter ∷ []) in
    let one : said a ((rest ++ ws) ++ h ∷ []) ≡ said a (before ++ shorter ∷ []) ++ value ∷ [] =
    said-last ((rest ++ ws) ++ h ∷ []) (before ++ shorter ∷ []) a a value
    (ap (last_value a) backwards ∙ last-header kind.Row m a (w ∷ reverse before) ∙ read ∙ ap (λ (us : List ℕ). Some (last_of value a us)) (sym left)) in
    let others = said-row n place (m - 4097) a rest front fewer (omega (arith, cells)) (omega (arith, e)) in
    let many : p ≡ place + length (words_of front) = omega (arith, fewer, length-map front long_word) in
    let last : cell_values place (words_of ws) ≡ cell_values place (words_of front) ++ value ∷ [] =
    ap (λ (us : List ℕ). cell_values place (words_of us)) ends ∙ ap (cell_values place) (map_push long_word front w)
    ∙ values-last (words_of front) place (long_word w) p many in
    one ∙ ap (λ (vs : List Old). vs ++ value ∷ []) others ∙ append_assoc (said a rest) (cell_values place (words_of front)) (value ∷ [])
    ∙ ap (λ (vs : List Old). said a rest ++ vs) (sym last)

-- the same, of its first cell and the number of its cells
pub row-says : (header place count : ℕ) (a : Anchor) (rest ws : List ℕ) → IsRow header place count → length ws ≡ count →
    said a ((rest ++ ws) ++ header ∷ []) ≡ said a rest ++ cell_values place (words_of ws)
row-says header place count a rest ws row len =
    let some = row.some in
    let cells = row.cells in
    let m = count * 4096 + (place + count - 1) in
    let same : m ≡ (count - 1 + 1) * 4096 + (place + (count - 1)) = omega (arith, some) in
    ap (λ h. said a ((rest ++ ws) ++ h ∷ [])) row.is
    ∙ said-row (count - 1) place m a rest ws (omega (arith, some, len)) (omega (arith, some, cells)) same

-- units, after them those of words, and a header
pub row-appended : (units now : List ℕ) (words : List WordValue) (header place count : ℕ) (a : Anchor) → IsRow header place count → length words ≡ count →
    take (length units) now ≡ units → words_of (drop (length units) now) ≡ words → said a (now ++ header ∷ []) ≡ said a units ++ cell_values place words
row-appended units now words header place count a row len before after =
    let ws = drop (length units) now in
    let many : length ws ≡ count = omega (arith, len, ap length after, length-map ws long_word) in
    let joined : now ≡ units ++ ws = sym (take-append-drop (length units) now) ∙ ap (λ (us : List ℕ). us ++ ws) before in
    ap (λ (us : List ℕ). said a (us ++ header ∷ [])) joined ∙ row-says header place count a units ws row many
    ∙ ap (λ (vs : List WordValue). said a units ++ cell_values place vs) after

-- the values of cells put back
values-put : (ws : List WordValue) (place : ℕ) (w : WorldState) → place + length ws ≤ 4000 →
    put_back put_value (cell_values place ws) w ≡ Some (record w { cells = with_words w.cells place ws })
values-put [] place w h = refl
values-put (v ∷ ws) place w h =
    let there : nat_lt place 4000 ≡ true = grind (arith, nat_tests) in
    ap (option_and_then (λ (t : WorldState). put_value t (old.Cell place v))) (values-put ws (place + 1) w (omega (arith, h))) ∙ rw there refl

-- the cells of a row put back
pub row-restored : (header place count : ℕ) (a : Anchor) (units left : List ℕ) (w v : WorldState) → IsRow header place count → count ≤ length units →
    left ≡ take (length units - count) units → v ≡ record w { cells = with_words w.cells place (words_of (drop (length units - count) units)) } →
    Restored (said a (units ++ header ∷ [])) (said a left) w v count
row-restored header place count a units left w v row within is done =
    let n = length units - count in
    let rest = take n units in
    let ws = drop n units in
    let some = row.some in
    let cells = row.cells in
    let len : length ws ≡ count = omega (arith, within, length-drop n units) in
    let values = cell_values place (words_of ws) in
    let many : length values ≡ count = length-cell_values place (words_of ws) ∙ length-map ws long_word ∙ len in
    let words : length (words_of ws) ≡ count = length-map ws long_word ∙ len in
    let all : said a (units ++ header ∷ []) ≡ said a rest ++ values =
    ap (λ (us : List ℕ). said a (us ++ header ∷ [])) (sym (take-append-drop n units)) ∙ row-says header place count a rest ws row len in
    let first : length (said a rest) ≡ length (said a (units ++ header ∷ [])) - count = omega (arith, many, ap length all, length-append (said a rest) values) in
    let last : drop (length (said a (units ++ header ∷ [])) - count) (said a (units ++ header ∷ [])) ≡ values =
    ap (drop (length (said a (units ++ header ∷ [])) - count)) all ∙ drop_at (said a rest) values _ first in
    record {
      some = some;
      back = ap (λ (os : List Old). put_back put_value os w) last ∙ values-put (words_of ws) place w (omega (arith, cells, words)) ∙ ap Some (sym done);
      cut = ap (said a) is ∙ sym (ap (take (length (said a (units ++ header ∷ [])) - count)) all ∙ take_at (said a rest) values _ first);
      part = part-last count (said a (units ++ header ∷ [])) (said a rest) values all (part-cells count place (words_of ws) many);
    }

-- the values that were put back first, of more
some-of-append : (xs ys : List Old) (w : WorldState) → IsSome (put_back put_value (xs ++ ys) w) → IsSome (put_back put_value ys w)
some-of-append [] ys w some = some
some-of-append (x ∷ xs) ys w some = some-of-append xs ys w (some-before (λ (t : WorldState). put_value t x) (put_back put_value (xs ++ ys) w) some) where
  some-before : (f : WorldState → Option WorldState) (t : Option WorldState) → IsSome (option_and_then f t) → IsSome t
  some-before f None h = h
  some-before f (Some t) h = refl

-- values put back, those of a header among them
pub header-restored : (all left values : List Old) (count : ℕ) (w v : WorldState) → all ≡ left ++ values → length values ≡ count → 0 < count →
    count ≤ newest_part is_clock count (reverse values) → put_back put_value values w ≡ Some v → Restored all left w v count
header-restored all left values count w v is many some part done =
    let len : length left ≡ length all - count = omega (arith, many, ap length is, length-append left values) in
    record {
      some = some;
      back = ap (λ (os : List Old). put_back put_value os w) (ap (drop (length all - count)) is ∙ drop_at left values _ len) ∙ done;
      cut = sym (ap (take (length all - count)) is ∙ take_at left values _ len);
      part = part-last count all left values is part;
    }

-- where the last values can be put back, those of the last header can
pub header-fits : (all left values : List Old) (most : ℕ) (w : WorldState) → all ≡ left ++ values → length values ≤ most → most ≤ length all →
    IsSome (put_back put_value (drop (length all - most) all) w) → IsSome (put_back put_value values w)
header-fits all left values most w is few within fit =
    let n = length all - most in
    let len : n ≤ length left = omega (arith, few, within, ap length is, length-append left values) in
    let ends : drop n all ≡ drop n left ++ values = ap (drop n) is ∙ drop-append-le n left values len in
    some-of-append (drop n left) values w (subst IsSome (ap (λ (os : List Old). put_back put_value os w) ends) fit)

-- one value alone
pub last-fits : (all left : List Old) (value : Old) (most : ℕ) (w : WorldState) → all ≡ left ++ value ∷ [] → 0 < most → most ≤ length all →
    IsSome (put_back put_value (drop (length all - most) all) w) → IsSome (put_back put_value (value ∷ []) w)
last-fits all left value most w is more within fit = header-fits all left (value ∷ []) most w is (omega (arith, more)) within fit

pub one-restored : (all left : List Old) (value : Old) (most : ℕ) (w v : WorldState) → all ≡ left ++ value ∷ [] → 0 < most → most ≤ length all →
    IsSome (put_back put_value (drop (length all - most) all) w) → v ≡ set_value w value → Restored all left w v 1
one-restored all left value most w v is more within fit done =
    header-restored all left (value ∷ []) 1 w v is refl (omega arith) (part-one value)
    (put-alone w v (value ∷ []) value refl (last-fits all left value most w is more within fit) done)
