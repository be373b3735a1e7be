-- How the first word leaves a line.
use Rattle.std.proofs.Common.{◌≡◌, ℕ, zero, suc, ◌+◌, ◌-◌, ◌<◌, ◌≢◌, add-zero, Bool, true, false, not, None, Some, List, [], ◌∷◌, length, get_or, take, drop, refl, sym, ap, ◌∙◌, arith}
use Rattle.std.specs.Prelude.{position, nat_lt}
use Rattle.std.proofs.lemmas.List.{take_rest, drop_all, length-take-le, length-drop, get_or-drop}
use Rattle.std.proofs.lemmas.Bool.{false≢true, lt-ltb}
use Rattle.std.proofs.lemmas.List.Quantifiers.{position-Some}
use Rattle.std.proofs.lemmas.List.Sums.{fails_before_first}
use Rattle.std.proofs.lemmas.List.Splits.{slice_split_first, slice_split_none}
use Rattle.mix_lines.specs.Lines.{is_blank, words, words-nil}
use Rattle.mix_lines.proofs.Positions.{found, missed}

true-from_not : (b : Bool) → not b ≡ false → b ≡ true
true-from_not true h = refl
true-from_not false h = cc

false-from_not : (b : Bool) → not b ≡ true → b ≡ false
false-from_not true h = cc
false-from_not false h = refl

abbrev is_word_byte : ℕ → Bool
is_word_byte byte = not (is_blank byte)

-- blanks at a line's start are in no word
words-skip : (n : ℕ) (line : List ℕ) → ((k : ℕ) → k < n → is_blank (get_or line k 0) ≡ true)
    → words line ≡ words (drop n line)
unfolding words
words-skip zero line h = refl
words-skip (suc n) [] h = refl
words-skip (suc n) (byte ∷ rest) h =
    let first : is_blank byte ≡ true = h 0 (omega arith) in
    rw first (words-skip n rest (λ k l. h (suc k) (omega arith)))

-- a text that begins with a byte of a word begins with that word
words-cut : (text : List ℕ) (end : ℕ) → Some end ≡ position is_blank text → is_blank (get_or text 0 0) ≡ false
    → words text ≡ take end text ∷ words (drop (end + 1) text)
unfolding words
words-cut text end at first =
    let w = found is_blank text end at in
    let blank = (position-Some is_blank text end 0 (sym at)).1 in
    let some : end ≢ 0 = λ e. false≢true (sym first ∙ ap (λ k. is_blank (get_or text k 0)) (sym e) ∙ blank) in
    let e = slice_split_first is_blank text 0 (omega arith) in
    let front = length-take-le end text (omega arith) in
    let kept : nat_lt 0 (length (take end text)) ≡ true = lt-ltb 0 (length (take end text)) (omega arith) in
    rw (e, w.0, kept) refl

words-one : (text : List ℕ) → 0 < length text → None ≡ position is_blank text → words text ≡ text ∷ []
unfolding words
words-one text some none =
    let whole = missed is_blank text none in
    let e = slice_split_none is_blank text (λ k d l. fails_before_first is_blank text k d (omega arith)) in
    let kept : nat_lt 0 (length text) ≡ true = lt-ltb 0 (length text) some in
    rw (e, kept) refl

pub words-none : (line : List ℕ) → None ≡ position is_word_byte line → words line ≡ []
words-none line none =
    let whole = missed is_word_byte line none in
    let blanks : (k : ℕ) → k < length line → is_blank (get_or line k 0) ≡ true =
    λ k l. true-from_not _ (fails_before_first is_word_byte line k 0 (omega arith)) in
    words-skip (length line) line blanks ∙ rw (drop_all (length line) line (omega arith)) words-nil

words-start : (line : List ℕ) (start : ℕ) → Some start ≡ position is_word_byte line
    → (words line ≡ words (drop start line)) × (is_blank (get_or (drop start line) 0 0) ≡ false) × (0 < length (drop start line))
words-start line start at =
    let w = position-Some is_word_byte line start 0 (sym at) in (
      words-skip start line (λ k l. true-from_not _ (w.2 k l)),
      rw (get_or-drop start line 0 0, add-zero) (false-from_not _ w.1),
      omega (arith, length-drop start line),
    )

pub words-first : (line : List ℕ) (start : ℕ) (text : List ℕ) (end : ℕ) → Some start ≡ position is_word_byte line
    → text ≡ drop start line → Some end ≡ position is_blank text
    → words line ≡ take end text ∷ words (take (length text - (end + 1)) (drop (end + 1) text))
words-first line start text end from e to =
    let w = words-start line start from in
    rw (w.0, ← e, take_rest text (end + 1)) (words-cut text end to (rw e w.1))

pub words-last : (line : List ℕ) (start : ℕ) (text : List ℕ) → Some start ≡ position is_word_byte line
    → text ≡ drop start line → None ≡ position is_blank text
    → words line ≡ text ∷ words (take (length text - length text) (drop (length text) text))
words-last line start text from e none =
    let w = words-start line start from in
    rw (w.0, ← e, take_rest text (length text), drop_all (length text) text (omega arith), words-nil) (words-one text (rw e w.2) none)
