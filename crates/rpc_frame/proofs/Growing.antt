-- The first frame of a text is the same when more bytes follow, once it is whole; and until then the text is short.
use Rattle.std.proofs.Common.{◌≡◌, ◌⊎◌, inl, inr, ℕ, ◌+◌, ◌-◌, ◌<◌, ◌≤◌, Bool, true, false, cond, Option, None, Some, List, [], ◌∷◌, ◌++◌, length, take, drop, nat_eq, refl, sym, ap, subst, ◌∙◌, arith}
use Rattle.std.proofs.lemmas.Bool.{ltb-true, ltb-false, le-ltb}
use Rattle.std.proofs.lemmas.Grind.{common_steps}
use Rattle.std.proofs.lemmas.List.{length-append, length-take, length-drop, take-append-le, drop-append-le, take_all, append-nil}
use Rattle.std.proofs.Math.Seq.{take-append-add}
use Rattle.std.specs.List.{onto_first}
use Rattle.std.specs.Prelude.{nat_lt}
use Rattle.mix_lines.specs.Lines.{is_line_feed, whole_lines, text_of_line}
use Rattle.std.specs.Option.{option_or}
use Rattle.rpc_frame.specs.Frame.{whole, partial, too_long, is_ended, length_in, header_in, body_in, after_header, max_header, max_body, first_frame}
use Rattle.rpc_frame.specs.Longer.{Longer}

-- ---- lines that more bytes follow

-- Lines go on in others: each is among them, but for a last one that has no line end.
abbrev Extends : List (List ℕ) → List (List ℕ) → Type 0
Extends [] more = Unit {0}
Extends (line ∷ lines) more = ((lines ≡ []) × (is_ended line ≡ false)) ⊎ ((rest : List (List ℕ)) × (more ≡ line ∷ rest) × Extends lines rest)

open_byte : (byte : ℕ) (line : List ℕ) → is_line_feed byte ≡ false → is_ended line ≡ false → is_ended (byte ∷ line) ≡ false
open_byte byte [] here before = here
open_byte byte (next ∷ rest) here before = grind (arith, common_steps)

-- a byte that ends no line, before lines and before those that they go on in
onto-extends : (byte : ℕ) (lines more : List (List ℕ)) → is_line_feed byte ≡ false → Extends lines more
    → Extends (onto_first byte lines) (onto_first byte more)
onto-extends byte [] more here before = inl (refl, here)
onto-extends byte (line ∷ lines) more here (inl last) = inl (last.0, open_byte byte line here last.1)
onto-extends byte (line ∷ lines) more here (inr goes) = inr (goes.0, ap (onto_first byte) goes.1, goes.2)

extends-step : (byte : ℕ) (lines more : List (List ℕ)) → Extends lines more → (v : Bool) → is_line_feed byte ≡ v
    → Extends (cond v ((byte ∷ []) ∷ lines) (onto_first byte lines)) (cond v ((byte ∷ []) ∷ more) (onto_first byte more))
extends-step byte lines more before true here = inr (more, refl, before)
extends-step byte lines more before false here = onto-extends byte lines more here before

lines-extend : (text more : List ℕ) → Extends (whole_lines text) (whole_lines (text ++ more))
lines-extend [] more = tt
lines-extend (byte ∷ rest) more = extends-step byte (whole_lines rest) (whole_lines (rest ++ more)) (lines-extend rest more) (is_line_feed byte) refl

-- ---- the header in lines that more bytes follow

-- how many bytes lines have
abbrev total : List (List ℕ) → ℕ
total [] = 0
total (line ∷ lines) = length line + total lines

total-onto : (byte : ℕ) (lines : List (List ℕ)) → total (onto_first byte lines) ≡ 1 + total lines
total-onto byte [] = refl
total-onto byte (line ∷ lines) = omega arith

total-step : (byte : ℕ) (lines : List (List ℕ)) (v : Bool) → total (cond v ((byte ∷ []) ∷ lines) (onto_first byte lines)) ≡ 1 + total lines
total-step byte lines true = refl
total-step byte lines false = total-onto byte lines

total-lines : (text : List ℕ) → total (whole_lines text) ≡ length text
total-lines [] = refl
total-lines (byte ∷ rest) = total-step byte (whole_lines rest) (is_line_feed byte) ∙ omega (arith, total-lines rest)

-- a header has no more bytes than its lines
within-step : (given : Option ℕ) (end here left : ℕ) (more : Option (Option ℕ × ℕ)) (h : Option ℕ × ℕ) → (more ≡ Some h → h.1 ≤ end + here + left)
    → (a b : Bool) → cond a (cond b (Some (given, end + here)) more) None ≡ Some h → h.1 ≤ end + (here + left)
within-step given end here left more h deeper false b e = absurd (cc)
within-step given end here left more h deeper true false e = let le = deeper e in omega arith
within-step given end here left more h deeper true true e =
    let same : (given, end + here) ≡ h = cc in
    let at : end + here ≡ h.1 = ap (λ (p : Option ℕ × ℕ). p.1) same in
    omega arith

within : (given : Option ℕ) (end : ℕ) (lines : List (List ℕ)) (h : Option ℕ × ℕ) → header_in given end lines ≡ Some h → h.1 ≤ end + total lines
within given end [] h e = absurd (cc)
within given end (line ∷ lines) h e =
    within-step given end (length line) (total lines) (header_in (option_or (length_in (text_of_line line)) given) (end + length line) lines) h
    (within (option_or (length_in (text_of_line line)) given) (end + length line) lines h) (is_ended line) (nat_eq (length (text_of_line line)) 0) e

goes-step : (found : Option (Option ℕ × ℕ)) (more next : Option (Option ℕ × ℕ)) (h : Option ℕ × ℕ) → (more ≡ Some h → next ≡ Some h)
    → (a b : Bool) → cond a (cond b found more) None ≡ Some h → cond a (cond b found next) None ≡ Some h
goes-step found more next h deeper false b e = e
goes-step found more next h deeper true false e = deeper e
goes-step found more next h deeper true true e = e

stops-step : (inner : Option (Option ℕ × ℕ)) (h : Option ℕ × ℕ) (a : Bool) → a ≡ false → cond a inner None ≡ Some h → ⊥
stops-step inner h false is e = cc
stops-step inner h true is e = cc

-- a header that is found in lines is found in those that they go on in
found-longer : (given : Option ℕ) (end : ℕ) (lines more : List (List ℕ)) (h : Option ℕ × ℕ) → Extends lines more
    → header_in given end lines ≡ Some h → header_in given end more ≡ Some h
found-longer given end [] more h goes e = absurd (cc)
found-longer given end (line ∷ lines) more h (inl last) e = absurd (stops-step _ h (is_ended line) last.1 e)
found-longer given end (line ∷ lines) more h (inr goes) e =
    let next = option_or (length_in (text_of_line line)) given in
    let deeper = found-longer next (end + length line) lines goes.0 h goes.2 in
    ap (header_in given end) goes.1
    ∙ goes-step _ _ (header_in next (end + length line) goes.0) h deeper (is_ended line) (nat_eq (length (text_of_line line)) 0) e

-- ---- the first frame

-- the bytes in which a header is looked for go on, or are all that they may be
cut-goes : (text more : List ℕ) → (b : Bool) → nat_lt (length text) max_header ≡ b
    → (rest : List ℕ) × (take max_header (text ++ more) ≡ take max_header text ++ rest)
cut-goes text more true short =
    let less = ltb-true (length text) max_header short in
    let room : max_header ≡ length text + (max_header - length text) = omega arith in (
      take (max_header - length text) more,
      ap (λ n. take n (text ++ more)) room ∙ take-append-add text more (max_header - length text)
          ∙ ap (λ t. t ++ take (max_header - length text) more) (sym (take_all max_header text (omega arith))),
    )
cut-goes text more false long =
    let most = ltb-false (length text) max_header long in
    ([], take-append-le max_header text more most ∙ sym (append-nil (take max_header text)))

header-goes : (text more : List ℕ) (h : Option ℕ × ℕ) → header_in None 0 (whole_lines (take max_header text)) ≡ Some h
    → header_in None 0 (whole_lines (take max_header (text ++ more))) ≡ Some h
header-goes text more h e =
    let cut = cut-goes text more (nat_lt (length text) max_header) refl in
    ap (λ t. header_in None 0 (whole_lines t)) cut.1
    ∙ found-longer None 0 (whole_lines (take max_header text)) (whole_lines (take max_header text ++ cut.0)) h (lines-extend (take max_header text) cut.0) e

header-within : (text : List ℕ) (h : Option ℕ × ℕ) → header_in None 0 (whole_lines (take max_header text)) ≡ Some h
    → (h.1 ≤ length text) × (h.1 ≤ max_header)
header-within text h e =
    let le = within None 0 (whole_lines (take max_header text)) h e in
    let sum = total-lines (take max_header text) in
    let long = length-take max_header text in
    (omega arith, omega arith)

body-step : (n : ℕ) (text more : List ℕ) (b : Bool) → nat_lt (length text) n ≡ b
    → Longer (cond b partial (whole (take n text) (drop n text))) more
    (cond (nat_lt (length (text ++ more)) n) partial (whole (take n (text ++ more)) (drop n (text ++ more))))
body-step n text more true short = tt
body-step n text more false long =
    let most = ltb-false (length text) n long in
    let grown : n ≤ length (text ++ more) = omega (arith, length-append text more) in
    rw (le-ltb (length (text ++ more)) n grown, take-append-le n text more most, drop-append-le n text more most) refl

body-long : (n : ℕ) (text more : List ℕ) (b : Bool)
    → Longer (cond b too_long (cond (nat_lt (length text) n) partial (whole (take n text) (drop n text)))) more
    (cond b too_long (cond (nat_lt (length (text ++ more)) n) partial (whole (take n (text ++ more)) (drop n (text ++ more)))))
body-long n text more true = refl
body-long n text more false = body-step n text more (nat_lt (length text) n) refl

body-longer : (given : Option ℕ) (text more : List ℕ) → Longer (body_in given text) more (body_in given (text ++ more))
body-longer None text more = refl
body-longer (Some n) text more = body-long n text more (nat_lt max_body n)

none-longer : (text more : List ℕ) (b : Bool) → nat_lt (length text) max_header ≡ b
    → header_in None 0 (whole_lines (take max_header text)) ≡ None → Longer (cond b partial too_long) more (first_frame (text ++ more))
unfolding first_frame
none-longer text more true short e = tt
none-longer text more false long e =
    let most = ltb-false (length text) max_header long in
    let grown : max_header ≤ length (text ++ more) = omega (arith, length-append text more) in
    ap (λ t. after_header (header_in None 0 (whole_lines t)) (text ++ more)) (take-append-le max_header text more most)
    ∙ ap (λ h. after_header h (text ++ more)) e
    ∙ ap (λ b. cond b partial too_long) (le-ltb (length (text ++ more)) max_header grown)

longer-by : (text more : List ℕ) (found : Option (Option ℕ × ℕ)) → header_in None 0 (whole_lines (take max_header text)) ≡ found
    → Longer (after_header found text) more (first_frame (text ++ more))
unfolding first_frame
longer-by text more None e = none-longer text more (nat_lt (length text) max_header) refl e
longer-by text more (Some h) e =
    let most = header-within text h e in
    let next : first_frame (text ++ more) ≡ body_in h.0 (drop h.1 text ++ more) =
    ap (λ o. after_header o (text ++ more)) (header-goes text more h e) ∙ ap (body_in h.0) (drop-append-le h.1 text more most.0) in
    subst (Longer (body_in h.0 (drop h.1 text)) more) (sym next) (body-longer h.0 (drop h.1 text) more)

-- what a text begins with stays, when more bytes follow
pub longer : (text more : List ℕ) → Longer (first_frame text) more (first_frame (text ++ more))
unfolding first_frame
longer text more = longer-by text more (header_in None 0 (whole_lines (take max_header text))) refl

-- ---- a text that is no whole frame yet

short-body : (n : ℕ) (text : List ℕ) (a : Bool) → nat_lt max_body n ≡ a → (b : Bool) → nat_lt (length text) n ≡ b
    → cond a too_long (cond b partial (whole (take n text) (drop n text))) ≡ partial → length text < max_body
short-body n text true large b here e = absurd (cc)
short-body n text false large false here e = absurd (cc)
short-body n text false large true here e =
    let most = ltb-false max_body n large in
    let less = ltb-true (length text) n here in
    omega arith

body-short : (given : Option ℕ) (text : List ℕ) → body_in given text ≡ partial → length text < max_body
body-short None text e = absurd (cc)
body-short (Some n) text e = short-body n text (nat_lt max_body n) refl (nat_lt (length text) n) refl e

short-none : (text : List ℕ) (b : Bool) → nat_lt (length text) max_header ≡ b → cond b partial too_long ≡ partial → length text < max_header + max_body
short-none text true short e = let less = ltb-true (length text) max_header short in omega arith
short-none text false long e = absurd (cc)

short-by : (text : List ℕ) (found : Option (Option ℕ × ℕ)) → header_in None 0 (whole_lines (take max_header text)) ≡ found
    → after_header found text ≡ partial → length text < max_header + max_body
short-by text None e is = short-none text (nat_lt (length text) max_header) refl is
short-by text (Some h) e is =
    let most = header-within text h e in
    let short = body-short h.0 (drop h.1 text) is in
    omega (arith, length-drop h.1 text)

-- a beginning of a frame is shorter than a frame may be
pub partial-short : (text : List ℕ) → first_frame text ≡ partial → length text < max_header + max_body
unfolding first_frame
partial-short text e = short-by text (header_in None 0 (whole_lines (take max_header text))) refl e
