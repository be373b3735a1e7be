-- The words of a person's conditions, one after the other.
use Rattle.std.proofs.Common.{◌≡◌, ◌∙◌, ◌++◌, ℕ, Bool, true, List, [], ◌∷◌, codes, length, eqb, refl, sym, ap, append_assoc, arith}
use Rattle.std.proofs.lemmas.Bool.{eqb-true}
use Rattle.std.specs.Str.{str_eq_ignore_ascii_case}
use Rattle.mixal_text.specs.Names.{NamesValue}
use Rattle.mix_person.specs.Person.{condition_words, spaced, words_in}

-- some words, and some after them
pub spaced_append : (a b : List (List ℕ)) → spaced (a ++ b) ≡ spaced a ++ spaced b
spaced_append [] b = refl
spaced_append (word ∷ a) b = ap (λ t. 32 ∷ t) (ap (λ t. word ++ t) (spaced_append a b) ∙ sym (append_assoc word (spaced a) (spaced b)))

-- the next one is put
pub put_next : (names : NamesValue) (is_first goes : Bool) (word : List ℕ) (rest words : List (List ℕ)) (text next whole : List ℕ) → words ≡ word ∷ rest →
    goes ≡ str_eq_ignore_ascii_case word (codes "or") → next ≡ text ++ spaced (words_in names is_first word) →
    text ++ spaced (condition_words names is_first words) ≡ whole → next ++ spaced (condition_words names goes rest) ≡ whole
put_next names is_first goes word rest words text next whole words_are goes_is next_is so_far =
    let put = words_in names is_first word in
    let left = condition_words names goes rest in
    let here : spaced (put ++ left) ≡ spaced (condition_words names is_first words) = rw (words_are, goes_is) refl in
    ap (λ t. t ++ spaced left) next_is ∙ append_assoc text (spaced put) (spaced left) ∙ ap (λ t. text ++ t) (sym (spaced_append put left) ∙ here) ∙ so_far
