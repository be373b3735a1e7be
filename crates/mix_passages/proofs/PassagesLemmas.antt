-- The columns so far, and those of the words that are left, are all of them.
use Rattle.std.proofs.Common.{◌≡◌, ◌<◌, ℕ, Bool, true, false, ◌&&◌, List, ◌∷◌, ◌++◌, length, Option, None, Some, refl, sym, ap, ◌∙◌, append_assoc, nat_le, nat_lt, option_and_then, arith}
use Rattle.std.proofs.lemmas.Bool.Decides.{nat_tests}
use Rattle.std.proofs.lemmas.List.{length-append}
use Rattle.mix_session.specs.Session.{SessionState}
use Rattle.mix_passages.specs.Passages.{ColumnValue}
use Rattle.mix_passages.specs.Reading.{before_assert, columns_in, columns_of, columns_of_all, fitting, joined, most_columns}

-- columns before others, and these before more
joined-twice : (columns first : List ColumnValue) (others : Option (List ColumnValue)) → joined columns (joined first others) ≡ joined (columns ++ first) others
joined-twice columns first None = refl
joined-twice columns first (Some more) = ap (λ c. Some c) (sym (append_assoc columns first more))

-- the next word names some
pub columns-next : (s : SessionState) (word : List ℕ) (words more : List (List ℕ)) (columns next : List ColumnValue) (all : Option (List ColumnValue)) →
    words ≡ word ∷ more → joined columns (columns_of s word) ≡ Some next → joined columns (columns_of_all s words) ≡ all → joined next (columns_of_all s more) ≡ all
columns-next s word words more columns next all e named so_far =
    let whole : joined columns (option_and_then (λ first. joined first (columns_of_all s more)) (columns_of s word)) ≡ all = rw e at so_far in
    elim (columns_of s word) as (λ found. joined columns found ≡ Some next → joined columns (option_and_then (λ first. joined first (columns_of_all s more)) found) ≡ all →
    joined next (columns_of_all s more) ≡ all) [
      | None ↦ λ n w. absurd (cc (n))
      | Some first ↦ λ n w. let same : columns ++ first ≡ next = cc (n) in rw (← same) (sym (joined-twice columns first (columns_of_all s more)) ∙ w)
    ] named whole

-- it names none
pub columns-none : (s : SessionState) (word : List ℕ) (words more : List (List ℕ)) (columns : List ColumnValue) (all : Option (List ColumnValue)) →
    words ≡ word ∷ more → joined columns (columns_of s word) ≡ None → joined columns (columns_of_all s words) ≡ all → all ≡ None
columns-none s word words more columns all e named so_far =
    let whole : joined columns (option_and_then (λ first. joined first (columns_of_all s more)) (columns_of s word)) ≡ all = rw e at so_far in
    elim (columns_of s word) as (λ found. joined columns found ≡ None → joined columns (option_and_then (λ first. joined first (columns_of_all s more)) found) ≡ all →
    all ≡ None) [
      | None ↦ λ n w. sym w
      | Some first ↦ λ n w. absurd (cc (n))
    ] named whole

and-false : (a : Bool) → (a && false) ≡ false
and-false true = refl
and-false false = refl

-- there are too many
pub columns-many : (columns : List ColumnValue) (others all : Option (List ColumnValue)) → most_columns < length columns → joined columns others ≡ all →
    option_and_then fitting all ≡ None
columns-many columns None all many e = rw (← e) refl
columns-many columns (Some more) all many e =
    let long : nat_le (length (columns ++ more)) most_columns ≡ false = rw length-append (grind (arith, nat_tests, many)) in
    let none : (nat_lt 0 (length (columns ++ more)) && nat_le (length (columns ++ more)) most_columns) ≡ false = rw long (and-false (nat_lt 0 (length (columns ++ more)))) in
    rw (← e) (rw none refl)

-- with the next word there are too many
pub none-where-many : (s : SessionState) (all : List (List ℕ)) (word : List ℕ) (words more : List (List ℕ)) (columns next : List ColumnValue) → words ≡ word ∷ more →
    joined columns (columns_of s word) ≡ Some next → joined columns (columns_of_all s words) ≡ columns_of_all s (before_assert all) →
    most_columns < length next → None ≡ columns_in s all
unfolding columns_in
none-where-many s all word words more columns next e named so_far many =
    let whole = columns_of_all s (before_assert all) in
    sym (columns-many next (columns_of_all s more) whole many (columns-next s word words more columns next whole e named so_far))
