-- How the links of a chain follow one after the other.
use Rattle.std.proofs.Common.{◌≡◌, ℕ, zero, suc, ◌-◌, ◌<◌, List, length, Option, Some, None, Ok, Err, refl, sym, ap, ◌∙◌, arith}
use Rattle.mix_formula.specs.declared.arithmetic.Operator.{Operator}
use Rattle.mix_formula.specs.Prelude.{Reckoned, NameValue, unblanked}
use Rattle.mix_formula.specs.Arithmetic.{outcome}
use Rattle.mix_formula.specs.Formula.{Reading, chain, link, links, product_by, sum_at, sum_operator, then_read}

links-more : (op : List ℕ → Option (Operator × List ℕ)) (part : List ℕ → Reading) (n : ℕ) (v : Reckoned) (text : List ℕ) → 0 < n
    → links op part n v text ≡ link part (links op part (n - 1)) v text (op (unblanked text))
unfolding links
links-more op part zero v text some = absurd (omega arith)
links-more op part (suc n) v text some =
    let less : suc n - 1 ≡ n = omega arith in
    ap (λ (k : ℕ). link part (links op part k) v text (op (unblanked text))) (sym less)

pub links-none : (op : List ℕ → Option (Operator × List ℕ)) (part : List ℕ → Reading) (n : ℕ) (v : Reckoned) (text after : List ℕ) → 0 < n
    → after ≡ unblanked text → op after ≡ None → links op part n v text ≡ Ok (v, text)
links-none op part n v text after some blanks none =
    links-more op part n v text some ∙ ap (λ (f : Option (Operator × List ℕ)). link part (links op part (n - 1)) v text f) (ap op (sym blanks) ∙ none)

links-found : (op : List ℕ → Option (Operator × List ℕ)) (part : List ℕ → Reading) (n : ℕ) (v : Reckoned) (text here after : List ℕ) (o : Operator) → 0 < n
    → here ≡ unblanked text → op here ≡ Some (o, after)
    → links op part n v text ≡ then_read (part after) (λ next rest. links op part (n - 1) (outcome o v next) rest)
links-found op part n v text here after o some blanks found =
    links-more op part n v text some ∙ ap (λ (f : Option (Operator × List ℕ)). link part (links op part (n - 1)) v text f) (ap op (sym blanks) ∙ found)

pub links-some : (op : List ℕ → Option (Operator × List ℕ)) (part : List ℕ → Reading) (n : ℕ) (v next : Reckoned) (text here after rest : List ℕ) (o : Operator) → 0 < n
    → here ≡ unblanked text → op here ≡ Some (o, after) → part after ≡ Ok (next, rest)
    → links op part n v text ≡ links op part (n - 1) (outcome o v next) rest
links-some op part n v next text here after rest o some blanks found read =
    links-found op part n v text here after o some blanks found
    ∙ ap (λ (r : Reading). then_read r (λ next rest. links op part (n - 1) (outcome o v next) rest)) read

pub links-refused : (op : List ℕ → Option (Operator × List ℕ)) (part : List ℕ → Reading) (n : ℕ) (v : Reckoned) (text here after : List ℕ) (o : Operator) (left : ℕ) → 0 < n
    → here ≡ unblanked text → op here ≡ Some (o, after) → part after ≡ Err left
    → links op part n v text ≡ Err left
links-refused op part n v text here after o left some blanks found read =
    links-found op part n v text here after o some blanks found
    ∙ ap (λ (r : Reading). then_read r (λ next rest. links op part (n - 1) (outcome o v next) rest)) read

pub links-done : (op : List ℕ → Option (Operator × List ℕ)) (part : List ℕ → Reading) (v : Reckoned) (text : List ℕ) → links op part 0 v text ≡ Ok (v, text)
unfolding links
links-done op part v text = refl

pub sum_at-none : (names : List NameValue) (text : List ℕ) → sum_at names 0 text ≡ Err (length text)
unfolding sum_at
sum_at-none names text = refl

pub sum_at-some : (names : List NameValue) (depth : ℕ) (text : List ℕ) → 0 < depth
    → sum_at names depth text ≡ chain sum_operator (product_by names (sum_at names (depth - 1))) text
unfolding sum_at
sum_at-some names zero text some = absurd (omega arith)
sum_at-some names (suc depth) text some =
    let less : suc depth - 1 ≡ depth = omega arith in
    ap (λ (k : ℕ). chain sum_operator (product_by names (sum_at names k)) text) (sym less)

pub chain-read : (op : List ℕ → Option (Operator × List ℕ)) (part : List ℕ → Reading) (v : Reckoned) (text rest : List ℕ) → part text ≡ Ok (v, rest)
    → chain op part text ≡ links op part (length text) v rest
chain-read op part v text rest read = ap (λ (r : Reading). then_read r (λ value rest. links op part (length text) value rest)) read

pub chain-refused : (op : List ℕ → Option (Operator × List ℕ)) (part : List ℕ → Reading) (left : ℕ) (text : List ℕ) → part text ≡ Err left
    → chain op part text ≡ Err left
chain-refused op part left text read = ap (λ (r : Reading). then_read r (λ value rest. links op part (length text) value rest)) read
