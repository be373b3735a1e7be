-- The lines of a talk, which come in parts: what is said of the parts holds of the whole.
use Rattle.std.proofs.Common.{◌≡◌, ◌∙◌, ◌<◌, ◌≤◌, ◌+◌, ◌-◌, ◌||◌, ℕ, Bool, true, false, cond, List, [], ◌∷◌, ◌++◌, append_assoc, length, map, take, get_or, slice_index, Option, None, Some, refl, sym, ap, subst, arith, true≢false, eqb}
use Rattle.std.proofs.KnownBytes.{Consumes-trans}
use Rattle.std.proofs.lemmas.List.{append-nil, length-append, length-take-le, map-append, take_more}
use Rattle.std.proofs.lemmas.List.Folds.{list_any-append}
use Rattle.std.specs.List.{list_any, onto_first}
use Rattle.std.specs.Io.KnownBytes.{Consumes, IsAtEnd, Keeps}
use Rattle.mix_lines.specs.Lines.{is_line_feed, lines, strip_line_feed, text_of_line, whole_lines}
use Rattle.std.specs.Str.Lines.{strip_carriage_return}
use Rattle.std.proofs.lemmas.Bool.{lt-ltb, or_parts}
use Rattle.mix_run.specs.Prelude.{is_too_long, is_whole, max_line_bytes}
use Rattle.mix_run.specs.Opening.{Saved, noted, noted_one}

-- ---- lines

some_lines : (byte : ℕ) (rest : List ℕ) → 0 < length (whole_lines (byte ∷ rest))
some_lines byte rest = go (is_line_feed byte) (whole_lines rest)
  where
    go : (v : Bool) (more : List (List ℕ)) → 0 < length (cond v ((byte ∷ []) ∷ more) (onto_first byte more))
    go true more = omega arith
    go false [] = omega arith
    go false (line ∷ more) = omega arith

onto-append : (byte : ℕ) (xs ys : List (List ℕ)) → 0 < length xs → onto_first byte (xs ++ ys) ≡ onto_first byte xs ++ ys
onto-append byte [] ys some = absurd (omega arith)
onto-append byte (x ∷ xs) ys some = refl

joined-append : (v : Bool) (byte : ℕ) (xs ys : List (List ℕ)) → 0 < length xs
    → cond v ((byte ∷ []) ∷ (xs ++ ys)) (onto_first byte (xs ++ ys)) ≡ cond v ((byte ∷ []) ∷ xs) (onto_first byte xs) ++ ys
joined-append true byte xs ys some = refl
joined-append false byte xs ys some = onto-append byte xs ys some

-- the lines of whole lines and of what follows them
whole_lines-append : (front rest : List ℕ) → is_whole front ≡ true → whole_lines (front ++ rest) ≡ whole_lines front ++ whole_lines rest
whole_lines-append [] rest whole = refl
whole_lines-append (byte ∷ []) rest whole = rw whole refl
whole_lines-append (byte ∷ next ∷ front) rest whole =
    let later = whole_lines-append (next ∷ front) rest whole in
    ap (λ l. cond (is_line_feed byte) ((byte ∷ []) ∷ l) (onto_first byte l)) later
    ∙ joined-append (is_line_feed byte) byte (whole_lines (next ∷ front)) (whole_lines rest) (some_lines next front)

pub lines-append : (front rest : List ℕ) → is_whole front ≡ true → lines (front ++ rest) ≡ lines front ++ lines rest
unfolding lines
lines-append front rest whole =
    ap (map text_of_line) (whole_lines-append front rest whole) ∙ map-append text_of_line (whole_lines front) (whole_lines rest)

-- ---- lines that are too long

step-first : (byte : ℕ) (v : Bool) (ls : List (List ℕ)) (line : List ℕ) (more : List (List ℕ)) → v ≡ false → ls ≡ line ∷ more
    → cond v ((byte ∷ []) ∷ ls) (onto_first byte ls) ≡ (byte ∷ line) ∷ more
step-first byte true ls line more h e = absurd (true≢false h)
step-first byte false ls line more h e = ap (onto_first byte) e

-- a line that begins with some bytes, of which none is a line feed
first-line : (part rest : List ℕ) → list_any is_line_feed part ≡ false → 0 < length part
    → (line : List ℕ) × (more : List (List ℕ)) × (whole_lines (part ++ rest) ≡ line ∷ more) × (length part ≤ length line)
first-line [] rest clear some = absurd (omega arith)
first-line (byte ∷ []) rest clear some = go (is_line_feed byte) (whole_lines rest) (or_parts (is_line_feed byte) false clear).0
  where
    go : (v : Bool) (ls : List (List ℕ)) → v ≡ false
        → (line : List ℕ) × (more : List (List ℕ)) × (cond v ((byte ∷ []) ∷ ls) (onto_first byte ls) ≡ line ∷ more) × (1 ≤ length line)
    go true ls h = absurd (true≢false h)
    go false [] h = (byte ∷ [], [], refl, omega arith)
    go false (line ∷ ls) h = (byte ∷ line, ls, refl, omega arith)
first-line (byte ∷ next ∷ part) rest clear some =
    let clears = or_parts (is_line_feed byte) (list_any is_line_feed (next ∷ part)) clear in
    let later = first-line (next ∷ part) rest clears.1 (omega arith) in (
      byte ∷ later.0,
      later.1,
      step-first byte (is_line_feed byte) (whole_lines ((next ∷ part) ++ rest)) later.0 later.1 clears.0 later.2,
      (let longer = later.3 in omega (arith, longer)),
    )

one-less : (v : Bool) (line : List ℕ) → length line ≤ length (cond v (take (length line - 1) line) line) + 1
one-less true line = let same = length-take-le (length line - 1) line (omega arith) in omega (arith, same)
one-less false line = omega arith

-- the end of a line has two bytes at most
end-of-two : (line : List ℕ) → length line ≤ length (text_of_line line) + 2
end-of-two line =
    let bare = strip_line_feed line in
    let feed : length line ≤ length bare + 1 = one-less (is_line_feed (slice_index line (length line - 1))) line in
    let return : length bare ≤ length (strip_carriage_return bare) + 1 = one-less (eqb (get_or bare (length bare - 1) 0) 13) bare in
    omega (arith, feed, return)

any-first : (line : List ℕ) (more : List (List ℕ)) → max_line_bytes < length line → list_any is_too_long (line ∷ more) ≡ true
any-first line more over = rw (lt-ltb max_line_bytes (length line) over) refl

-- the line that such a part begins is too long, if the part is longer than a line may be with its end
pub long-first : (part rest : List ℕ) → list_any is_line_feed part ≡ false → max_line_bytes + 2 < length part
    → list_any is_too_long (lines (part ++ rest)) ≡ true
unfolding lines
long-first part rest clear over =
    let first = first-line part rest clear (omega (arith, over)) in
    let longer = first.3 in
    let ends = end-of-two first.0 in
    ap (λ l. list_any is_too_long (map text_of_line l)) first.2
    ∙ any-first (text_of_line first.0) (map text_of_line first.1) (omega (arith, over, longer, ends))

pub whole-append : (front rest : List ℕ) → is_whole front ≡ true → is_whole rest ≡ true → is_whole (front ++ rest) ≡ true
whole-append [] rest h k = k
whole-append (byte ∷ []) [] h k = h
whole-append (byte ∷ []) (next ∷ rest) h k = k
whole-append (byte ∷ next ∷ front) rest h k = whole-append (next ∷ front) rest h k

-- whole lines that end a part of one
pub whole-onto : (part rest : List ℕ) → 0 < length rest → is_whole rest ≡ true → is_whole (part ++ rest) ≡ true
whole-onto [] rest some h = h
whole-onto (byte ∷ []) [] some h = absurd (omega arith)
whole-onto (byte ∷ []) (next ∷ rest) some h = h
whole-onto (byte ∷ next ∷ part) rest some h = whole-onto (next ∷ part) rest some h

whole-last : (front : List ℕ) → is_whole (front ++ 10 ∷ []) ≡ true
whole-last [] = refl
whole-last (byte ∷ []) = refl
whole-last (byte ∷ next ∷ front) = whole-last (next ∷ front)

-- a text up to a line feed
pub whole-take : (text : List ℕ) (n : ℕ) → n < length text → get_or text n 0 ≡ 10 → is_whole (take (n + 1) text) ≡ true
whole-take text n within last =
    ap is_whole (take_more text n 0 within ∙ ap (λ b. take n text ++ b ∷ []) last) ∙ whole-last (take n text)

-- ---- what lines save

pub noted-then : (so_far : Option (List Saved)) (xs ys : List Saved) → noted (noted so_far xs) ys ≡ noted so_far (xs ++ ys)
noted-then so_far [] ys = refl
noted-then so_far (file ∷ files) ys = noted-then (noted_one so_far file) files ys

-- ---- some bytes more

-- some bytes after those that are left: the lines that are whole, and what stands after them
module _ (left part front rest : List ℕ) (parts : part ≡ front ++ rest) where
  -- no line is whole yet
  pub more-parts : front ≡ [] → left ++ part ≡ left ++ rest
  more-parts none = ap (λ t. left ++ t) (parts ∙ ap (λ l. l ++ rest) none)

  pub more-clear : list_any is_line_feed left ≡ false → list_any is_line_feed rest ≡ false → list_any is_line_feed (left ++ rest) ≡ false
  more-clear line after = list_any-append is_line_feed left rest ∙ ap (λ v. v || list_any is_line_feed rest) line ∙ after

  -- the line that was begun, and those that end it
  pub joined-parts : left ++ part ≡ (left ++ front) ++ rest
  joined-parts = ap (λ t. left ++ t) parts ∙ sym (append_assoc left front rest)

  pub joined-whole : 0 < length front → is_whole front ≡ true → is_whole (left ++ front) ≡ true
  joined-whole some whole = whole-onto left front some whole

pub some-from_length : (xs : List ℕ) → false ≡ eqb (length xs) 0 → 0 < length xs
some-from_length [] e = absurd (true≢false (sym e))
some-from_length (x ∷ xs) e = omega arith

-- ---- the text of the whole talk

known-rest : (new : Option (List ℕ)) (t bytes : List ℕ) → Consumes (Some t) new bytes → (rest : List ℕ) × (new ≡ Some rest) × (t ≡ bytes ++ rest)
known-rest None t bytes consumed = absurd consumed
known-rest (Some rest) t bytes consumed = (rest, refl, consumed)

-- what is left of a known text after some bytes
pub left-known : (old new : Option (List ℕ)) (t bytes : List ℕ) → old ≡ Some t → Consumes old new bytes
    → (rest : List ℕ) × (new ≡ Some rest) × (t ≡ bytes ++ rest)
left-known old new t bytes e consumed = known-rest new t bytes (subst (λ o. Consumes o new bytes) e consumed)

kept-rest : (new : Option (List ℕ)) (rest : List ℕ) → Keeps (Some rest) new → new ≡ Some rest
kept-rest None rest keeps = absurd keeps
kept-rest (Some now) rest keeps = ap (λ l. Some l) keeps

-- a read that failed took nothing
pub kept-known : (old new : Option (List ℕ)) (rest : List ℕ) → old ≡ Some rest → Keeps old new → new ≡ Some rest
kept-known old new rest e keeps = kept-rest new rest (subst (λ o. Keeps o new) e keeps)

at-end : (new : Option (List ℕ)) (rest : List ℕ) → new ≡ Some rest → IsAtEnd new → rest ≡ []
at-end new rest e is = let there : IsAtEnd (Some rest) = subst IsAtEnd e is in there

-- all of it was read
pub all-read : (old mid new : Option (List ℕ)) (t bytes part : List ℕ) → old ≡ Some t → Consumes old mid bytes → Consumes mid new part → part ≡ []
    → IsAtEnd new → t ≡ bytes ++ []
all-read old mid new t bytes part e first second none is =
    let known = left-known old new t (bytes ++ part) e (Consumes-trans old mid new bytes part first second) in
    known.2 ∙ ap (λ r. (bytes ++ part) ++ r) (at-end new known.0 known.1 is) ∙ append-nil (bytes ++ part) ∙ ap (λ r. bytes ++ r) none

-- a read that gave bytes
pub read-more : (reads n : ℕ) (bytes buffer : List ℕ) → reads ≤ length bytes → 0 < n → n ≤ length buffer → reads + 1 ≤ length (bytes ++ take n buffer)
read-more reads n bytes buffer le some within = omega (arith, length-append bytes (take n buffer), length-take-le n buffer within)
