-- The values that are given to names, one after the other.
use Rattle.std.proofs.Common.{◌≡◌, ◌∙◌, ℕ, List, [], ◌∷◌, ◌++◌, Option, None, Some, ap, refl, sym, append_assoc}
use Rattle.std.proofs.lemmas.List.{append-nil, map-append}
use Rattle.std.specs.List.{slice_split}
use Rattle.std.specs.Option.{option_and_then}
use Rattle.mix_formula.specs.Prelude.{given_of, NameValue, all_named, named}
use Rattle.mix_formula.specs.declared.names.Named.{Named}
use Rattle.mix_views.specs.Analysis.{given_first, given_in, given_onto}
use Rattle.mixal_text.specs.Prelude.{is_comma, pieces_of}

-- before what is given there is nothing
pub given-none : (more : Option (List NameValue)) → given_onto [] more ≡ more
given-none None = refl
given-none (Some rest) = refl

given-then : (before : List NameValue) (first : NameValue) (more : Option (List NameValue)) → given_onto (before ++ first ∷ []) more ≡ given_onto before (given_first first more)
given-then before first None = refl
given-then before first (Some rest) = ap Some (append_assoc before (first ∷ []) rest)

-- what is left from a piece on
left-from : (given : List Named) (pieces piece : List ℕ) (more : Option (List ℕ)) (found : Option NameValue) → slice_split is_comma pieces ≡ piece ∷ pieces_of is_comma more
    → given_of piece ≡ found
    → given_onto (all_named given) (given_in (slice_split is_comma pieces))
    ≡ given_onto (all_named given) (option_and_then (λ first. given_first first (given_in (pieces_of is_comma more))) found)
left-from given pieces piece more found cut is =
    ap (λ parts. given_onto (all_named given) (given_in parts)) cut
    ∙ ap (λ first. given_onto (all_named given) (option_and_then (λ one. given_first one (given_in (pieces_of is_comma more))) first)) is

-- a piece that gives a value
pub piece-given : (given : List Named) (value : Named) (pieces piece : List ℕ) (more : Option (List ℕ)) (all : Option (List NameValue))
    → given_onto (all_named given) (given_in (slice_split is_comma pieces)) ≡ all → slice_split is_comma pieces ≡ piece ∷ pieces_of is_comma more
    → given_of piece ≡ Some (named value) → given_onto (all_named (given ++ value ∷ [])) (given_in (pieces_of is_comma more)) ≡ all
piece-given given value pieces piece more all so_far cut is =
    ap (λ names. given_onto names (given_in (pieces_of is_comma more))) (map-append named given (value ∷ []))
    ∙ given-then (all_named given) (named value) (given_in (pieces_of is_comma more))
    ∙ sym (left-from given pieces piece more (Some (named value)) cut is) ∙ so_far

-- one that gives none
pub piece-refused : (given : List Named) (pieces piece : List ℕ) (more : Option (List ℕ)) (all : Option (List NameValue))
    → given_onto (all_named given) (given_in (slice_split is_comma pieces)) ≡ all → slice_split is_comma pieces ≡ piece ∷ pieces_of is_comma more
    → given_of piece ≡ None → None ≡ all
piece-refused given pieces piece more all so_far cut is = sym (left-from given pieces piece more None cut is) ∙ so_far

-- no piece is left
pub pieces-done : (given : List Named) (all : Option (List NameValue)) → given_onto (all_named given) (given_in []) ≡ all → Some (all_named given) ≡ all
pieces-done given all so_far = sym (ap Some (append-nil (all_named given))) ∙ so_far

pub ruleset given = (given-none, piece-given, piece-refused, pieces-done)
