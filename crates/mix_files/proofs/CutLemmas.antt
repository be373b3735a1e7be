-- How a text is gone through line by line up to a marker.
use Rattle.std.proofs.Common.{◌≡◌, ℕ, suc, ◌+◌, ◌-◌, Bool, true, false, cond, List, [], ◌∷◌, ◌++◌, append_assoc, append-nil, length, take, refl, sym, ap, ◌∙◌, arith}
use Rattle.std.specs.List.{after_first, before_first, concat, onto_first, position_or_len}
use Rattle.std.specs.Str.{bytes_eq}
use Rattle.std.proofs.lemmas.List.{take_at, length-append}
use Rattle.mix_lines.specs.Lines.{is_line_feed, text_of_line, whole_lines}
use Rattle.mix_files.specs.Bundle.{is_marker, before_marker, after_marker}

-- what is left of a text when the lines before it are no marker
pub record Remains (marker text rest : List ℕ) : Type 0 where
  pub whole : text ≡ take (length text - length rest) text ++ rest
  pub before : before_marker marker text ≡ take (length text - length rest) text ++ before_marker marker rest
  pub after : after_marker marker text ≡ after_marker marker rest

-- the first line of a text and what follows it
pub record Split (rest line after : List ℕ) : Type 0 where
  pub lines : whole_lines rest ≡ line ∷ whole_lines after
  pub parts : rest ≡ line ++ after

-- the lines joined again
joined-step : (byte : ℕ) (rest : List ℕ) (lines : List (List ℕ)) → concat lines ≡ rest → (v : Bool)
    → concat (cond v ((byte ∷ []) ∷ lines) (onto_first byte lines)) ≡ byte ∷ rest
joined-step byte rest lines e true = ap (λ l. byte ∷ l) e
joined-step byte rest [] e false = ap (λ l. byte ∷ l) e
joined-step byte rest (line ∷ more) e false = ap (λ l. byte ∷ l) e

concat-whole_lines : (text : List ℕ) → concat (whole_lines text) ≡ text
concat-whole_lines [] = refl
concat-whole_lines (byte ∷ rest) = joined-step byte rest (whole_lines rest) (concat-whole_lines rest) (is_line_feed byte)

before-pass : (p : List ℕ → Bool) (line : List ℕ) (more : List (List ℕ)) → p line ≡ false
    → before_first p (line ∷ more) ≡ line ∷ before_first p more
before-pass p line more h = let one : 1 + position_or_len p more ≡ suc (position_or_len p more) = omega arith in rw (h, one) refl

after-pass : (p : List ℕ → Bool) (line : List ℕ) (more : List (List ℕ)) → p line ≡ false
    → after_first p (line ∷ more) ≡ after_first p more
after-pass p line more h = let one : 1 + position_or_len p more + 1 ≡ suc (position_or_len p more + 1) = omega arith in rw (h, one) refl

before-stop : (p : List ℕ → Bool) (line : List ℕ) (more : List (List ℕ)) → p line ≡ true
    → before_first p (line ∷ more) ≡ []
before-stop p line more h = rw h refl

after-stop : (p : List ℕ → Bool) (line : List ℕ) (more : List (List ℕ)) → p line ≡ true
    → after_first p (line ∷ more) ≡ more
after-stop p line more h = rw h refl

passed : (marker rest line after : List ℕ) → whole_lines rest ≡ line ∷ whole_lines after → is_marker marker line ≡ false
    → (before_marker marker rest ≡ line ++ before_marker marker after) × (after_marker marker rest ≡ after_marker marker after)
unfolding before_marker after_marker
passed marker rest line after e miss = (
  ap (λ l. concat (before_first (is_marker marker) l)) e ∙ ap concat (before-pass (is_marker marker) line (whole_lines after) miss),
  ap (λ l. concat (after_first (is_marker marker) l)) e ∙ ap concat (after-pass (is_marker marker) line (whole_lines after) miss),
)

stopped : (marker rest line after : List ℕ) → whole_lines rest ≡ line ∷ whole_lines after → is_marker marker line ≡ true
    → (before_marker marker rest ≡ []) × (after_marker marker rest ≡ after)
unfolding before_marker after_marker
stopped marker rest line after e hit = (
  ap (λ l. concat (before_first (is_marker marker) l)) e ∙ ap concat (before-stop (is_marker marker) line (whole_lines after) hit),
  ap (λ l. concat (after_first (is_marker marker) l)) e ∙ ap concat (after-stop (is_marker marker) line (whole_lines after) hit)
      ∙ concat-whole_lines after,
)

-- a text that was cut before a line is cut after it
cut-after : (text front line after : List ℕ) → text ≡ front ++ (line ++ after)
    → take (length text - length after) text ≡ front ++ line
cut-after text front line after e =
    let parts : text ≡ (front ++ line) ++ after = e ∙ sym (append_assoc front line after) in
    let long : length text ≡ length (front ++ line) + length after = ap length parts
    ∙ length-append (front ++ line) after in
    let at : length text - length after ≡ length (front ++ line) = omega arith in
    ap (λ n. take n text) at ∙ ap (take (length (front ++ line))) parts ∙ take_at (front ++ line) after _ refl

-- the line is no marker, and the next one comes
pub next_line : (marker text rest line after content : List ℕ) → Remains marker text rest → Split rest line after
    → content ≡ text_of_line line → bytes_eq content marker ≡ false → Remains marker text after
next_line marker text rest line after content left split e miss =
    let front = take (length text - length rest) text in
    let other : is_marker marker line ≡ false = ap (λ l. bytes_eq l marker) (sym e) ∙ miss in
    let next = passed marker rest line after split.lines other in
    let whole : text ≡ front ++ (line ++ after) = left.whole ∙ ap (λ l. front ++ l) split.parts in
    let later = cut-after text front line after whole in
    record {
      whole = whole ∙ sym (append_assoc front line after) ∙ ap (λ l. l ++ after) (sym later);
      before = left.before ∙ ap (λ l. front ++ l) next.0 ∙ sym (append_assoc front line _)
          ∙ ap (λ l. l ++ before_marker marker after) (sym later);
      after = left.after ∙ next.1;
    }

-- the line is the marker
pub marker_line : (marker text rest line after content : List ℕ) → Remains marker text rest → Split rest line after
    → content ≡ text_of_line line → bytes_eq content marker ≡ true
    → (take (length text - length rest) text ≡ before_marker marker text) × (after ≡ after_marker marker text)
marker_line marker text rest line after content left split e hit =
    let front = take (length text - length rest) text in
    let here : is_marker marker line ≡ true = ap (λ l. bytes_eq l marker) (sym e) ∙ hit in
    let stop = stopped marker rest line after split.lines here in
    (sym (left.before ∙ ap (λ l. front ++ l) stop.0 ∙ append-nil _), sym (left.after ∙ stop.1))

remains-none : (marker text rest : List ℕ) → Remains marker text rest → length rest ≡ 0
    → (before_marker marker text ≡ text) × (after_marker marker text ≡ rest)
unfolding before_marker after_marker
remains-none marker text [] left none = (left.before ∙ sym left.whole, left.after)
remains-none marker text (byte ∷ rest) left none = absurd (omega arith)

pub before_end : (marker text rest : List ℕ) → Remains marker text rest → length rest ≡ 0
    → text ≡ before_marker marker text
before_end marker text rest left none = sym (remains-none marker text rest left none).0

pub after_end : (marker text rest : List ℕ) → Remains marker text rest → length rest ≡ 0
    → rest ≡ after_marker marker text
after_end marker text rest left none = sym (remains-none marker text rest left none).1

pub ruleset cutting = (before_end, after_end)
