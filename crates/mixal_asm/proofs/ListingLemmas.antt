-- The rows of a listing one after the other, and the number of a line.
use Rattle.std.proofs.Common.{◌≡◌, ℕ, zero, suc, ◌+◌, ◌-◌, ◌<◌, List, [], ◌∷◌, ◌++◌, length, map, take, replicate, get_or, false, refl, sym, ap, ◌∙◌, append_assoc, arith}
use Rattle.std.proofs.lemmas.List.{append-nil, map-append, take_more}
use Rattle.std.specs.List.{repeat}
use Rattle.std.specs.Fmt.{format_spec, padded_integral, char_count, styled_decimal, decimal}
use Rattle.mixal_asm.specs.declared.row.Row.{Row}
use Rattle.mixal_asm.specs.PassOne.{RowValue, Line}
use Rattle.mixal_asm.specs.Prelude.{ProgramValue, row_value}
use Rattle.mixal_asm.specs.Listing.{blanks, number_text, source_text, row_text, rows_text}

rows_text-append : (program : ProgramValue) (rows more : List RowValue) → rows_text program (rows ++ more) ≡ rows_text program rows ++ rows_text program more
rows_text-append program [] more = refl
rows_text-append program (row ∷ rows) more =
    ap (λ (text : List ℕ). row_text program row ++ text) (rows_text-append program rows more)
    ∙ sym (append_assoc (row_text program row) (rows_text program rows) (rows_text program more))

-- the text of one more of the rows
rows_text_next : (program : ProgramValue) (rows : List Row) (i : ℕ) (d : Row) → i < length rows
    → rows_text program (map row_value (take (i + 1) rows)) ≡ rows_text program (map row_value (take i rows)) ++ row_text program (row_value (get_or rows i d))
rows_text_next program rows i d below =
    let more : map row_value (take (i + 1) rows) ≡ map row_value (take i rows) ++ row_value (get_or rows i d) ∷ [] =
    ap (map row_value) (take_more rows i d below) ∙ map-append row_value (take i rows) (get_or rows i d ∷ []) in
    ap (rows_text program) more ∙ rows_text-append program (map row_value (take i rows)) (row_value (get_or rows i d) ∷ [])
    ∙ ap (λ (text : List ℕ). rows_text program (map row_value (take i rows)) ++ text) (append-nil (row_text program (row_value (get_or rows i d))))

-- the next row
pub rows_next : (program : ProgramValue) (rows : List Row) (old mid new : List ℕ) (i : ℕ) (row : Row) → i < length rows → row ≡ get_or rows i row
    → mid ≡ old ++ rows_text program (map row_value (take i rows)) → new ≡ mid ++ row_text program (row_value row)
    → new ≡ old ++ rows_text program (map row_value (take (i + 1) rows))
rows_next program rows old mid new i row below is before after =
    after ∙ ap (λ (text : List ℕ). text ++ row_text program (row_value row)) before
    ∙ append_assoc old (rows_text program (map row_value (take i rows))) (row_text program (row_value row))
    ∙ ap (λ (text : List ℕ). old ++ text)
    (ap (λ (r : Row). rows_text program (map row_value (take i rows)) ++ row_text program (row_value r)) is ∙ sym (rows_text_next program rows i row below))

-- ---- the number of a line, right in its five places

blanks_repeat : (n : ℕ) → repeat {A = ℕ} n (32 ∷ []) ≡ replicate {A = ℕ} n 32
blanks_repeat zero = refl
blanks_repeat (suc n) = ap (λ (text : List ℕ). 32 ∷ text) (blanks_repeat n)

right_of : (p q r : ℕ) (digits : List ℕ) → q ≡ p → r ≡ 0
    → repeat {A = ℕ} q (32 ∷ []) ++ [] ++ [] ++ [] ++ (digits ++ repeat {A = ℕ} r (32 ∷ [])) ≡ replicate p 32 ++ digits
right_of p q r digits same none = rw (same, none, blanks_repeat p) (simp append-nil)

right_in_five : (digits : List ℕ) → padded_integral (format_spec 32 3 0 5 18446744073709551615) false [] digits ≡ blanks (5 - length digits) ++ digits
unfolding padded_integral char_count lib.Utf8.encode
right_in_five digits =
    let q = 5 - length digits - 0 - 0 in
    right_of (5 - length digits) q (q - q) digits (omega arith) (omega arith)

number_padded : (spec : _) (n : ℕ) → spec ≡ format_spec 32 3 0 5 18446744073709551615 → styled_decimal spec n ≡ number_text n
unfolding number_text
number_padded spec n is = rw is (right_in_five (decimal n))

-- the number, two blanks, and the text of a line
pub line_text : (spec : _) (n : ℕ) (old front mid new line : List ℕ) → spec ≡ format_spec 32 3 0 5 18446744073709551615
    → front ≡ styled_decimal spec n ++ 32 ∷ 32 ∷ [] → mid ≡ old ++ front → new ≡ mid ++ line
    → new ≡ old ++ source_text (Line n line)
unfolding source_text
line_text spec n old front mid new line is front_is mid_is new_is =
    rw (new_is, mid_is, front_is, number_padded spec n is) (simp append_assoc)
