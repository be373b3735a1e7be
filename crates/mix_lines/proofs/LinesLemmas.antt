-- How the first line leaves a text.
use Rattle.std.proofs.Common.{◌≡◌, ℕ, ◌+◌, ◌-◌, ◌<◌, Bool, true, false, cond, not, None, Some, List, [], ◌∷◌, ◌++◌, length, take, drop, refl, sym, ap, ◌∙◌, arith}
use Rattle.std.specs.Prelude.{position}
use Rattle.std.specs.List.{after_first, position_or_len, onto_first}
use Rattle.std.proofs.lemmas.Grind.{common_steps}
use Rattle.std.proofs.lemmas.List.{take_rest, take_all, drop_all, take-append-drop, append-nil}
use Rattle.mix_lines.specs.Lines.{is_line_feed, whole_lines}
use Rattle.mix_lines.proofs.Positions.{found, missed}

-- how many bytes the first line has, its line feed included
abbrev line_len : List ℕ → ℕ
line_len text = position_or_len is_line_feed text + 1

cut-step : (byte : ℕ) (rest : List ℕ) (n : ℕ) → whole_lines rest ≡ take (n + 1) rest ∷ whole_lines (drop (n + 1) rest)
    → (v : Bool)
    → cond v ((byte ∷ []) ∷ whole_lines rest) (onto_first byte (whole_lines rest))
    ≡ take (cond (not v) (1 + n) 0 + 1) (byte ∷ rest) ∷ whole_lines (drop (cond (not v) (1 + n) 0 + 1) (byte ∷ rest))
cut-step byte rest n e true = grind (arith, common_steps)
cut-step byte rest n e false = rw e (grind (arith, common_steps))

cut-last : (byte : ℕ) (v : Bool)
    → cond v ((byte ∷ []) ∷ []) ((byte ∷ []) ∷ [])
    ≡ take (cond (not v) (1 + 0) 0 + 1) (byte ∷ []) ∷ whole_lines (drop (cond (not v) (1 + 0) 0 + 1) (byte ∷ []))
cut-last byte true = refl
cut-last byte false = refl

whole_lines-cut : (text : List ℕ) → 0 < length text
    → whole_lines text ≡ take (line_len text) text ∷ whole_lines (drop (line_len text) text)
whole_lines-cut [] h = absurd (omega arith)
whole_lines-cut (byte ∷ []) h = cut-last byte (is_line_feed byte)
whole_lines-cut (byte ∷ next ∷ rest) h = cut-step byte (next ∷ rest) _ (whole_lines-cut (next ∷ rest) (omega arith)) (is_line_feed byte)

-- a line that ends in a line feed
pub lines-first : (text : List ℕ) (end : ℕ) → Some end ≡ position is_line_feed text
    → whole_lines text ≡ take (end + 1) text ∷ whole_lines (take (length text - (end + 1)) (drop (end + 1) text))
lines-first text end at =
    let w = found is_line_feed text end at in
    rw (whole_lines-cut text (omega arith), w.0, take_rest text (end + 1)) refl

pub parts-first : (text : List ℕ) (end : ℕ) → text ≡ take (end + 1) text ++ take (length text - (end + 1)) (drop (end + 1) text)
parts-first text end = sym (ap (λ l. take (end + 1) text ++ l) (take_rest text (end + 1)) ∙ take-append-drop (end + 1) text)

pub rest-first : (text : List ℕ) (end : ℕ) → Some end ≡ position is_line_feed text
    → take (length text - (end + 1)) (drop (end + 1) text) ≡ after_first is_line_feed text
rest-first text end at = let w = found is_line_feed text end at in take_rest text (end + 1)
    ∙ ap (λ n. drop (n + 1) text) (sym w.0)

-- the last line, without a line feed
none-left : (text : List ℕ) → take (length text - length text) (drop (length text) text) ≡ []
none-left text = take_rest text (length text) ∙ drop_all (length text) text (omega arith)

pub lines-last : (text : List ℕ) → 0 < length text → None ≡ position is_line_feed text
    → whole_lines text ≡ text ∷ whole_lines (take (length text - length text) (drop (length text) text))
lines-last text some none =
    let w = missed is_line_feed text none in
    let all = take_all (length text + 1) text (omega arith) in
    let past = drop_all (length text + 1) text (omega arith) in
    rw (whole_lines-cut text some, w, all, past, none-left text) refl

pub parts-last : (text : List ℕ) → text ≡ text ++ take (length text - length text) (drop (length text) text)
parts-last text = sym (ap (λ l. text ++ l) (none-left text) ∙ append-nil text)

pub rest-last : (text : List ℕ) → None ≡ position is_line_feed text
    → take (length text - length text) (drop (length text) text) ≡ after_first is_line_feed text
rest-last text none =
    let w = missed is_line_feed text none in
    let past = drop_all (length text + 1) text (omega arith) in
    none-left text ∙ sym (ap (λ n. drop (n + 1) text) w ∙ past)
