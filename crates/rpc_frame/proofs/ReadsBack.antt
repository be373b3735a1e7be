-- The first frame of a frame and what follows it is that frame.
use Rattle.std.proofs.Common.{◌≡◌, ℕ, suc, ◌+◌, ◌-◌, ◌*◌, ◌/◌, ◌%◌, ◌^◌, ◌<◌, ◌≤◌, nat_eq, Bool, true, false, cond, Option, None, Some, List, [], ◌∷◌, ◌++◌, length, take, drop, get_or, codes, decimal, refl, sym, ap, ◌∙◌, append_assoc, arith}
use Rattle.std.proofs.Math.Nat.{pow-suc}
use Rattle.std.proofs.Math.Seq.{take-append-add}
use Rattle.std.proofs.lemmas.Bool.{and_parts, and_from, lt-ltb, le-ltb, le-leb, leb-true, ne_eqb, eq-eqb}
use Rattle.std.proofs.lemmas.Fmt.{decimal_by_steps, length-decimal-le}
use Rattle.std.proofs.lemmas.List.{length_push, length-append, take_at, drop_at, get_or_push}
use Rattle.std.proofs.lemmas.List.Folds.{list_all-append}
use Rattle.std.proofs.lemmas.List.Splits.{slice_split-cons_no}
use Rattle.std.specs.List.{list_all, slice_split, onto_first}
use Rattle.std.specs.Option.{option_or}
use Rattle.std.specs.Str.Lines.{strip_carriage_return}
use Rattle.mix_lines.specs.Lines.{is_blank, strip_line_feed, text_of_line, whole_lines, words}
use Rattle.mix_lines.specs.Number.{is_digit, is_digits, decimal_number, value_of}
use Rattle.rpc_frame.specs.Frame.{frame_of, max_header, max_body, is_ended, length_in, after_header, header_in, body_in, whole, first_frame}

-- ---- the digits of the length

more : (digit value next d power : ℕ) → next ≡ value * 10 + d → digit * (power * 10) + next ≡ (digit * power + value) * 10 + d
more digit value next d power e = grind arith

value_of-push : (text : List ℕ) (digit : ℕ) → value_of (text ++ digit ∷ []) ≡ value_of text * 10 + (digit - 48)
value_of-push [] digit = grind arith
value_of-push (first ∷ rest) digit =
    let shorter = value_of-push rest digit in
    let longer : length (rest ++ digit ∷ []) ≡ suc (length rest) = omega (arith, length_push rest digit) in
    rw longer (rw pow-suc (more (first - 48) (value_of rest) _ (digit - 48) (10 ^ length rest) shorter))

-- what is written is the number's digits
pub record Writes (n : ℕ) (text : List ℕ) : Type 0 where
  pub digits : list_all is_digit text ≡ true
  pub value : value_of text ≡ n
  pub some : 0 < length text

digit_is : (d : ℕ) → d < 10 → is_digit (48 + d) ≡ true
digit_is d small = and_from _ _ (le-leb 48 (48 + d) (omega arith)) (le-leb (48 + d) 57 (omega arith))

writes_one : (n : ℕ) → n < 10 → Writes n ((48 + n) ∷ [])
writes_one n small = record { digits = and_from _ _ (digit_is n small) refl; value = grind arith; some = omega arith }

writes_more : (n : ℕ) (text : List ℕ) → 10 ≤ n → Writes (n / 10) text → Writes n (text ++ ((48 + n % 10) ∷ []))
writes_more n text large h = record {
  digits = list_all-append is_digit text _ ∙ and_from _ _ h.digits (and_from _ _ (digit_is (n % 10) (omega arith)) refl);
  value = value_of-push text (48 + n % 10) ∙ omega (arith, h.value);
  some = omega (arith, length_push text (48 + n % 10));
}

writes : (n : ℕ) → n < 2 ^ 64 → Writes n (decimal n)
writes = decimal_by_steps Writes writes_one writes_more

pub number_back : (n : ℕ) → n ≤ max_body → decimal_number (decimal n) ≡ Some n
unfolding decimal_number is_digits
number_back n small =
    let w = writes n (omega arith) in
    let short = length-decimal-le 10 n (omega arith) (omega arith) (omega arith) in
    rw (lt-ltb 0 (length (decimal n)) w.some, w.digits, le-leb (length (decimal n)) 10 short, w.value) refl

-- ---- the words and lines of digits

no_blank : (x : ℕ) → is_digit x ≡ true → is_blank x ≡ false
no_blank x h = let r = and_parts _ _ h in let low = leb-true 48 x r.0 in rw (ne_eqb x 32 (omega arith), ne_eqb x 9 (omega arith)) refl

one_word : (text : List ℕ) → list_all is_digit text ≡ true → slice_split is_blank text ≡ text ∷ []
one_word [] h = refl
one_word (x ∷ rest) h =
    let r = and_parts _ _ h in
    slice_split-cons_no is_blank x rest (no_blank x r.0) ∙ ap (onto_first x) (one_word rest r.1)

word_after_blank : (text : List ℕ) → list_all is_digit text ≡ true → 0 < length text → words (32 ∷ text) ≡ text ∷ []
unfolding words
word_after_blank text h some = rw (one_word text h, lt-ltb 0 (length text) some) refl

no_feed : (x : ℕ) → is_digit x ≡ true → nat_eq x 10 ≡ false
no_feed x h = let r = and_parts _ _ h in let low = leb-true 48 x r.0 in ne_eqb x 10 (omega arith)

-- the lines of digits, two line ends and what follows
two_lines : (text more : List ℕ) → list_all is_digit text ≡ true
    → whole_lines (text ++ 13 ∷ 10 ∷ 13 ∷ 10 ∷ more) ≡ (text ++ 13 ∷ 10 ∷ []) ∷ (13 ∷ 10 ∷ []) ∷ whole_lines more
two_lines [] more h = refl
two_lines (x ∷ rest) more h =
    let r = and_parts _ _ h in
    rw (no_feed x r.0, two_lines rest more r.1) refl

-- ---- the header

last_of : (text : List ℕ) (byte : ℕ) → get_or (text ++ byte ∷ []) (length (text ++ byte ∷ []) - 1) 0 ≡ byte
last_of text byte = get_or_push text byte 0 _ (omega (arith, length_push text byte))

front_of : (text : List ℕ) (byte : ℕ) → take (length (text ++ byte ∷ []) - 1) (text ++ byte ∷ []) ≡ text
front_of text byte = take_at text (byte ∷ []) _ (omega (arith, length_push text byte))

ended : (text : List ℕ) → is_ended (text ++ 10 ∷ []) ≡ true
ended text = eq-eqb _ 10 (last_of text 10)

without_feed : (text : List ℕ) → strip_line_feed (text ++ 10 ∷ []) ≡ text
without_feed text = rw (ended text) (front_of text 10)

without_return : (text : List ℕ) → strip_carriage_return (text ++ 13 ∷ []) ≡ text
without_return text = rw (eq-eqb _ 13 (last_of text 13)) (front_of text 13)

text_of : (text : List ℕ) → text_of_line (text ++ 13 ∷ 10 ∷ []) ≡ text
text_of text =
    let parted = sym (append_assoc text (13 ∷ []) (10 ∷ [])) in
    ap strip_carriage_return (ap strip_line_feed parted ∙ without_feed (text ++ 13 ∷ [])) ∙ without_return text

ends : (text : List ℕ) → is_ended (text ++ 13 ∷ 10 ∷ []) ≡ true
ends text = ap is_ended (sym (append_assoc text (13 ∷ []) (10 ∷ []))) ∙ ended (text ++ 13 ∷ [])

choose : {A : Type 0} (b c : Bool) (x y z : A) → b ≡ true → c ≡ false → cond b (cond c x y) z ≡ y
choose true true x y z b c = cc
choose true false x y z b c = refl
choose false c x y z b d = cc

-- a line that is not blank
after_line : (given : Option ℕ) (end : ℕ) (text : List ℕ) (lines : List (List ℕ)) → 0 < length text
    → header_in given end ((text ++ 13 ∷ 10 ∷ []) ∷ lines) ≡ header_in (option_or (length_in text) given) (end + (length text + 2)) lines
after_line given end text lines some =
    let blank = ne_eqb (length (text_of_line (text ++ 13 ∷ 10 ∷ []))) 0 (omega (arith, ap length (text_of text))) in
    choose _ _ _ _ _ (ends text) blank
    ∙ ap (λ t. header_in (option_or (length_in t) given) (end + length (text ++ 13 ∷ 10 ∷ [])) lines) (text_of text)
    ∙ ap (λ n. header_in (option_or (length_in text) given) (end + n) lines) (length-append text (13 ∷ 10 ∷ []))

abbrev name : List ℕ
name = codes "Content-Length: "

length_of : (digits : List ℕ) → list_all is_digit digits ≡ true → 0 < length digits → length_in (name ++ digits) ≡ decimal_number digits
length_of digits h some = rw (word_after_blank digits h some) refl

-- the header of a length
heads : (n : ℕ) (rest : List ℕ) → n ≤ max_body
    → header_in None 0 (whole_lines (name ++ (decimal n ++ 13 ∷ 10 ∷ 13 ∷ 10 ∷ rest))) ≡ Some (Some n, length (decimal n) + 20)
heads n rest small =
    let w = writes n (omega arith) in
    let found : length_in (name ++ decimal n) ≡ Some n = length_of (decimal n) w.digits w.some ∙ number_back n small in
    let lines : whole_lines (name ++ (decimal n ++ 13 ∷ 10 ∷ 13 ∷ 10 ∷ rest)) ≡ ((name ++ decimal n) ++ 13 ∷ 10 ∷ []) ∷ (13 ∷ 10 ∷ []) ∷ whole_lines rest
    = rw (two_lines (decimal n) rest w.digits) refl in
    ap (header_in None 0) lines
    ∙ after_line None 0 (name ++ decimal n) ((13 ∷ 10 ∷ []) ∷ whole_lines rest) (omega arith)
    ∙ ap (λ o. header_in (option_or o None) (0 + (length (name ++ decimal n) + 2)) ((13 ∷ 10 ∷ []) ∷ whole_lines rest)) found
    ∙ ap (λ e. Some (Some n, e)) (omega arith)

over : (xs ys : List ℕ) (n m : ℕ) → n ≡ length xs + m → take n (xs ++ ys) ≡ xs ++ take m ys
over xs ys n m e = ap (λ k. take k (xs ++ ys)) e ∙ take-append-add xs ys m

body_back : (body rest : List ℕ) → length body ≤ max_body → body_in (Some (length body)) (body ++ rest) ≡ whole body rest
body_back body rest small =
    rw (le-ltb max_body (length body) small, le-ltb (length (body ++ rest)) (length body) (omega (arith, length-append body rest)), take_at body rest (length body) refl, drop_at body rest (length body) refl)
    refl

pub reads_back : (body rest : List ℕ) → length body ≤ max_body → first_frame (frame_of body ++ rest) ≡ whole body rest
unfolding first_frame frame_of
reads_back body rest small =
    let n = length body in
    let head = name ++ decimal n ++ 13 ∷ 10 ∷ 13 ∷ 10 ∷ [] in
    let text = head ++ body ++ rest in
    let short = length-decimal-le 10 n (omega arith) (omega arith) (omega arith) in
    let parted : text ≡ head ++ (body ++ rest) = append_assoc head body rest in
    let joined : text ≡ name ++ (decimal n ++ 13 ∷ 10 ∷ 13 ∷ 10 ∷ (body ++ rest)) =
    parted ∙ ap (λ t. name ++ t) (append_assoc (decimal n) (13 ∷ 10 ∷ 13 ∷ 10 ∷ []) (body ++ rest)) in
    let room : 4080 ≡ length (decimal n) + suc (suc (suc (suc (4076 - length (decimal n))))) = omega arith in
    let cut : take max_header text ≡ name ++ (decimal n ++ 13 ∷ 10 ∷ 13 ∷ 10 ∷ take (4076 - length (decimal n)) (body ++ rest)) =
    ap (take max_header) joined ∙ ap (λ t. name ++ t) (over (decimal n) _ 4080 _ room) in
    let long : length head ≡ length (decimal n) + 20 = omega (arith, length-append (decimal n) (13 ∷ 10 ∷ 13 ∷ 10 ∷ [])) in
    let past : drop (length (decimal n) + 20) text ≡ body ++ rest = ap (drop (length (decimal n) + 20)) parted ∙ drop_at head (body ++ rest) _ long in
    ap (λ t. after_header (header_in None 0 (whole_lines t)) text) cut
    ∙ ap (λ h. after_header h text) (heads n _ small)
    ∙ ap (body_in (Some n)) past
    ∙ body_back body rest small
