-- each operation is found by its own name, and what is found has the name
use Rattle.std.proofs.Common.{◌≡◌, ◌↔◌, ℕ, ◌≤◌, List, map, drop, length, Option, Some, subst, ◌∙◌, sym, ap, arith}
use Rattle.std.specs.List.{find}
use Rattle.std.specs.Option.{option_map}
use Rattle.std.specs.Str.{bytes_eq}
use Rattle.std.proofs.lemmas.List.{drop-map, length-map, take_rest}
use Rattle.std.proofs.lemmas.Slice.Eq.{bytes_eq-Decides}
use Rattle.mix_word.proofs.FindLemmas.{find-passes, find-column}
use Rattle.mix_word.proofs.TableLemmas.{own}
use Rattle.mix_word.specs.Prelude.{Operation, name_of, operations, operation_named}

pub found_name : (name : List ℕ) (op : Operation) → operation_named name ≡ Some op → name_of op ≡ name
unfolding operation_named
found_name name op e =
    (bytes_eq-Decides (name_of op) name).0 (find-passes (λ (x : Operation). bytes_eq (name_of x) name) operations op e)

pub named_law : (name : List ℕ) (r : Option Operation) → r ≡ operation_named name → (op : Operation) → (r ≡ Some op) ↔ (name_of op ≡ name)
named_law name r e op =
    (λ q. found_name name op (sym e ∙ q), λ h. e ∙ subst (λ (n : List ℕ). operation_named n ≡ Some op) h (own op).0)

pub ruleset rests = (take_rest)

-- a column has as many rows
pub rows-length : {R : Type 0} (f : R → Operation) (rows : List R) (k : ℕ) → map f rows ≡ operations → k ≤ length operations → k ≤ length rows
rows-length f rows k same within = let all = ap length same in let len = length-map rows f in omega (arith, all, len, within)

-- looked for from a row on before which no operation of the name stands
pub found_among : {R : Type 0} (f : R → Operation) (g : R → List ℕ) (name : List ℕ) (rows rest : List R) (k : ℕ) (r : Option Operation) → map f rows ≡ operations →
    map g rows ≡ map name_of operations → rest ≡ drop k rows → find (λ op. bytes_eq (name_of op) name) (drop k operations) ≡ operation_named name →
    r ≡ option_map f (find (λ x. bytes_eq (g x) name) rest) → r ≡ operation_named name
found_among f g name rows rest k r same names from first e =
    e
    ∙ find-column f g name_of (λ (n : List ℕ). bytes_eq n name) rest (drop k operations) (ap (map f) from ∙ sym (drop-map f k rows) ∙ ap (drop k) same)
    (ap (map g) from ∙ sym (drop-map g k rows) ∙ ap (drop k) names ∙ drop-map name_of k operations)
    ∙ first

pub own_text : (op : Operation) (name : List ℕ) → name ≡ name_of op → operation_named name ≡ Some op
own_text op name e = subst (λ (n : List ℕ). operation_named n ≡ Some op) (sym e) (own op).0
