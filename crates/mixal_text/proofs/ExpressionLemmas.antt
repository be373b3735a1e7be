-- How the terms of a text follow one after the other, and how an expression at a place is worked out.
use Rattle.std.proofs.Common.{Bool, true, false, ◌≡◌, ℕ, zero, suc, ◌+◌, ◌-◌, ◌≤◌, List, [], ◌∷◌, length, drop, Option, Some, None, Result, Ok, Err, refl, sym, ◌∙◌, ap, cond, arith}
use Rattle.std.specs.Prelude.{◌==◌}
use Rattle.std.specs.List.{before_first, position_or_len}
use Rattle.std.proofs.lemmas.List.{length-drop, length-take}
use Rattle.mix_word.specs.declared.word.Sign.{Sign}
use Rattle.mix_word.specs.declared.word.Sign.TheVariants.{Plus, Minus}
use Rattle.mix_word.specs.Word.{WordValue}
use Rattle.mixal_text.specs.Prelude.{Misread, or_at, ◌>>=◌, NamesValue}
use Rattle.mixal_text.specs.declared.operator.Operator.{Operator}
use Rattle.mixal_text.specs.declared.operator.Operator.TheVariants.{Add, Subtract, Multiply, Divide, Fraction, Field}
use Rattle.mixal_text.specs.Operator.{operator_at, operator_length, outcome_of}
use Rattle.mixal_text.specs.Atom.{is_other, atom_in, atom_value}
use Rattle.mixal_text.specs.Expression.{Term, sign_at, sign_length, term_length, terms_from, terms_in, terms_of, expression_in, value_after_sign, operated_at, terms_at, expression_at}

-- ---- lengths

atom-length : (star : Bool) (text : List ℕ) → 1 ≤ length text
    → length (cond star (42 ∷ []) (before_first is_other text)) ≤ length text
atom-length true text some = some
atom-length false text some = omega (arith, length-take (position_or_len is_other text) text)

pub atom-within : (text : List ℕ) → length (atom_in text) ≤ length text
unfolding atom_in
atom-within [] = omega arith
atom-within (byte ∷ rest) = atom-length (byte == 42) (byte ∷ rest) (omega arith)

sign-of-one : (plus minus : Bool) → sign_length (cond plus (Some Plus) (cond minus (Some Minus) None)) ≤ 1
sign-of-one true minus = omega arith
sign-of-one false true = omega arith
sign-of-one false false = omega arith

pub sign-within : (text : List ℕ) → sign_length (sign_at text) ≤ length text
unfolding sign_at
sign-within [] = omega arith
sign-within (byte ∷ rest) = let one = sign-of-one (byte == 43) (byte == 45) in omega arith

pub operator-some : (operator : Operator) → 1 ≤ operator_length operator
operator-some Add = omega arith
operator-some Subtract = omega arith
operator-some Multiply = omega arith
operator-some Divide = omega arith
operator-some Fraction = omega arith
operator-some Field = omega arith

operator-nil : operator_at [] ≡ None
unfolding operator_at
operator-nil = refl

-- what follows a term is shorter than the text that it begins
term-shorter : (n k : ℕ) (operator : Operator) (text : List ℕ) → length text ≤ suc n
    → length (drop k (drop (operator_length operator) text)) ≤ n
term-shorter n k operator text most =
    let some = operator-some operator in
    omega (arith, length-drop k (drop (operator_length operator) text), length-drop (operator_length operator) text)

-- ---- the terms of a text do not depend on how many are allowed, as long as all are

same-from : (n m : ℕ) (text : List ℕ) (found : Option Operator)
    → ((k : ℕ) (operator : Operator) → terms_in n (drop k (drop (operator_length operator) text)) ≡ terms_in m (drop k (drop (operator_length operator) text)))
    → terms_from found text (terms_in n) ≡ terms_from found text (terms_in m)
same-from n m text None same = refl
same-from n m text (Some operator) same =
    let after = drop (operator_length operator) text in
    let term : Term = record { operator = operator; atom = atom_in after } in
    ap (λ (more : List Term). term ∷ more) (same (length (atom_in after)) operator)

no-terms : (n : ℕ) → terms_in n [] ≡ []
unfolding terms_in
no-terms zero = refl
no-terms (suc n) = rw operator-nil refl

terms_in-enough : (n m : ℕ) (text : List ℕ) → length text ≤ n → length text ≤ m → terms_in n text ≡ terms_in m text
unfolding terms_in
terms_in-enough n m [] a b = no-terms n ∙ sym (no-terms m)
terms_in-enough zero m (byte ∷ rest) a b = absurd (omega arith)
terms_in-enough (suc n) zero (byte ∷ rest) a b = absurd (omega arith)
terms_in-enough (suc n) (suc m) (byte ∷ rest) a b =
    let text : List ℕ = byte ∷ rest in
    same-from n m text (operator_at text) (λ k operator. terms_in-enough n m (drop k (drop (operator_length operator) text)) (term-shorter n k operator text a) (term-shorter m k operator text b))

pub terms_of-none : (text : List ℕ) → operator_at text ≡ None → terms_of text ≡ []
unfolding terms_in
terms_of-none [] none = refl
terms_of-none (byte ∷ rest) none = rw none refl

-- the term that begins a text
abbrev pub term_at : Operator → List ℕ → Term
term_at operator text = record { operator = operator; atom = atom_in (drop (operator_length operator) text) }

-- what follows an operator and its atom
abbrev pub after_term : Operator → List ℕ → List ℕ
after_term operator text =
    drop (length (atom_in (drop (operator_length operator) text))) (drop (operator_length operator) text)

pub terms_of-more : (text : List ℕ) (operator : Operator) → operator_at text ≡ Some operator
    → terms_of text ≡ term_at operator text ∷ terms_of (after_term operator text)
unfolding terms_in
terms_of-more [] operator some = absurd (let e = operator-nil in cc)
terms_of-more (byte ∷ rest) operator some =
    let text : List ℕ = byte ∷ rest in
    let k = length (atom_in (drop (operator_length operator) text)) in
    let shorter = term-shorter (length rest) k operator text (omega arith) in
    rw some (ap (λ (more : List Term). term_at operator text ∷ more)
    (terms_in-enough (length rest) (length (after_term operator text)) (after_term operator text) shorter (omega arith)))

-- ---- an expression at a place is worked out one term after the other

-- the outcome of a term, and what is left after it
abbrev through : NamesValue → WordValue → ℕ → ℕ → List ℕ → Result WordValue Misread → Result (WordValue × ℕ) Misread
through names here start place rest (Ok next) = terms_at names here start place next (terms_of rest)
through names here start place rest (Err misread) = Err misread

step : (names : NamesValue) (here : WordValue) (start place : ℕ) (value : WordValue) (operator : Operator) (rest : List ℕ)
    → operator_at rest ≡ Some operator → (outcome : Result WordValue Misread)
    → operated_at names here start place value (term_at operator rest) ≡ outcome
    → terms_at names here start place value (terms_of rest)
    ≡ through names here start (place + term_length (term_at operator rest)) (after_term operator rest) outcome
unfolding terms_at
step names here start place value operator rest some (Ok next) o = rw (terms_of-more rest operator some) (rw o refl)
step names here start place value operator rest some (Err misread) o = rw (terms_of-more rest operator some) (rw o refl)

begin : (names : NamesValue) (here : WordValue) (start : ℕ) (text : List ℕ)
    → (let body = drop (sign_length (sign_at text)) text in
    let place = start + (sign_length (sign_at text) + length (atom_in body)) in
    (first : Result WordValue Misread) → or_at (atom_value names here (atom_in body)) (start + sign_length (sign_at text)) place ≡ first
    → expression_at names here start text
    ≡ through names here start place (drop (length (atom_in body)) body) (first >>= λ value. Ok (value_after_sign (sign_at text) value)))
unfolding expression_at expression_in
begin names here start text (Ok value) e = rw e refl
begin names here start text (Err misread) e = rw e refl

-- ---- where the parts lie

first-places : (start : ℕ) (text unsigned rest : List ℕ) → unsigned ≡ drop (sign_length (sign_at text)) text
    → rest ≡ drop (length (atom_in unsigned)) unsigned
    → (start + (length text - length unsigned) ≡ start + sign_length (sign_at text))
    × ((start + (length text - length rest) ≡ start + (sign_length (sign_at text) + length (atom_in (drop (sign_length (sign_at text)) text))))
    × (length rest ≤ length text))
first-places start text unsigned rest u r =
    let body = drop (sign_length (sign_at text)) text in
    let within = sign-within text in
    let most = atom-within body in
    let shorter = length-drop (sign_length (sign_at text)) text in
    let shortest = length-drop (length (atom_in body)) body in
    let left : rest ≡ drop (length (atom_in body)) body = rw (← u) r in
    (omega (arith, ap length u), (omega (arith, ap length left), omega (arith, ap length left)))

term-places : (start : ℕ) (text rest second after : List ℕ) (operator : Operator) → length rest ≤ length text
    → operator_length operator ≤ length rest → second ≡ drop (operator_length operator) rest
    → after ≡ drop (length (atom_in second)) second
    → (start + (length text - length second) ≡ start + (length text - length rest) + operator_length operator)
    × ((start + (length text - length after) ≡ start + (length text - length rest) + (operator_length operator + length (atom_in (drop (operator_length operator) rest))))
    × (length after ≤ length text))
term-places start text rest second after operator most fits d r =
    let body = drop (operator_length operator) rest in
    let within = atom-within body in
    let shorter = length-drop (operator_length operator) rest in
    let shortest = length-drop (length (atom_in body)) body in
    let left : after ≡ drop (length (atom_in body)) body = rw (← d) r in
    (omega (arith, ap length d), (omega (arith, ap length left), omega (arith, ap length left)))

-- ---- the steps as the code takes them

pub first-refused : (names : NamesValue) (here : WordValue) (start : ℕ) (text unsigned atom rest : List ℕ) (from to : ℕ) (misread : Misread)
    → unsigned ≡ drop (sign_length (sign_at text)) text → atom ≡ atom_in unsigned
    → rest ≡ drop (length (atom_in unsigned)) unsigned
    → from ≡ start + (length text - length unsigned) → to ≡ start + (length text - length rest)
    → Err misread ≡ or_at (atom_value names here atom) from to → Err misread ≡ expression_at names here start text
first-refused names here start text unsigned atom rest from to misread u a r f t e =
    let places = first-places start text unsigned rest u r in
    let refused : or_at (atom_value names here (atom_in (drop (sign_length (sign_at text)) text))) (start + sign_length (sign_at text)) (start + (sign_length (sign_at text) + length (atom_in (drop (sign_length (sign_at text)) text)))) ≡ Err misread =
    rw (← places.0, ← places.1.0, ← f, ← t, ← u, ← a) (sym e) in
    sym (begin names here start text (Err misread) refused)

pub first-taken : (names : NamesValue) (here : WordValue) (start : ℕ) (text : List ℕ) (sign : Option Sign) (unsigned atom rest : List ℕ) (from to : ℕ) (value signed : WordValue)
    → sign ≡ sign_at text → unsigned ≡ drop (sign_length (sign_at text)) text → atom ≡ atom_in unsigned
    → rest ≡ drop (length (atom_in unsigned)) unsigned
    → from ≡ start + (length text - length unsigned) → to ≡ start + (length text - length rest)
    → Ok value ≡ or_at (atom_value names here atom) from to → signed ≡ value_after_sign sign value
    → (expression_at names here start text ≡ terms_at names here start (start + (length text - length rest)) signed (terms_of rest)) × (length rest ≤ length text)
first-taken names here start text sign unsigned atom rest from to value signed s u a r f t e w =
    let places = first-places start text unsigned rest u r in
    let body = drop (sign_length (sign_at text)) text in
    let left : rest ≡ drop (length (atom_in body)) body = rw (← u) r in
    let taken : or_at (atom_value names here (atom_in body)) (start + sign_length (sign_at text)) (start + (sign_length (sign_at text) + length (atom_in body))) ≡ Ok value =
    rw (← places.0, ← places.1.0, ← f, ← t, ← u, ← a) (sym e) in
    (rw (places.1.0, left, w, s) (begin names here start text (Ok value) taken), places.1.1)

pub term-refused : (names : NamesValue) (here : WordValue) (start : ℕ) (text : List ℕ) (value : WordValue) (rest : List ℕ)
    → expression_at names here start text ≡ terms_at names here start (start + (length text - length rest)) value (terms_of rest) → length rest ≤ length text
    → (operator : Operator) → operator_at rest ≡ Some operator → operator_length operator ≤ length rest
    → (second atom after : List ℕ) → second ≡ drop (operator_length operator) rest → atom ≡ atom_in second
    → after ≡ drop (length (atom_in second)) second
    → (from to : ℕ) → from ≡ start + (length text - length second) → to ≡ start + (length text - length after)
    → (misread : Misread) → Err misread ≡ or_at (atom_value names here atom) from to → Err misread ≡ expression_at names here start text
term-refused names here start text value rest now most operator some fits second atom after d a r from to f t misread e =
    let places = term-places start text rest second after operator most fits d r in
    let outcome : operated_at names here start (start + (length text - length rest)) value (term_at operator rest) ≡ Err misread =
    rw (← places.0, ← places.1.0, ← f, ← t, ← d, ← a, ← e) refl in
    sym (now ∙ step names here start (start + (length text - length rest)) value operator rest some (Err misread) outcome)

pub outcome-refused : (names : NamesValue) (here : WordValue) (start : ℕ) (text : List ℕ) (value : WordValue) (rest : List ℕ)
    → expression_at names here start text ≡ terms_at names here start (start + (length text - length rest)) value (terms_of rest) → length rest ≤ length text
    → (operator : Operator) → operator_at rest ≡ Some operator → operator_length operator ≤ length rest
    → (second atom after : List ℕ) → second ≡ drop (operator_length operator) rest → atom ≡ atom_in second
    → after ≡ drop (length (atom_in second)) second
    → (from to : ℕ) → from ≡ start + (length text - length second) → to ≡ start + (length text - length after)
    → (operand : WordValue) → Ok operand ≡ or_at (atom_value names here atom) from to
    → (misread : Misread) → Err misread ≡ or_at (outcome_of operator value operand) start to → Err misread ≡ expression_at names here start text
outcome-refused names here start text value rest now most operator some fits second atom after d a r from to f t operand e misread o =
    let places = term-places start text rest second after operator most fits d r in
    let outcome : operated_at names here start (start + (length text - length rest)) value (term_at operator rest) ≡ Err misread =
    rw (← places.0, ← places.1.0, ← f, ← t, ← d, ← a, ← e) (sym o) in
    sym (now ∙ step names here start (start + (length text - length rest)) value operator rest some (Err misread) outcome)

pub term-taken : (names : NamesValue) (here : WordValue) (start : ℕ) (text : List ℕ) (value : WordValue) (rest : List ℕ)
    → expression_at names here start text ≡ terms_at names here start (start + (length text - length rest)) value (terms_of rest) → length rest ≤ length text
    → (operator : Operator) → operator_at rest ≡ Some operator → operator_length operator ≤ length rest
    → (second atom after : List ℕ) → second ≡ drop (operator_length operator) rest → atom ≡ atom_in second
    → after ≡ drop (length (atom_in second)) second
    → (from to : ℕ) → from ≡ start + (length text - length second) → to ≡ start + (length text - length after)
    → (operand : WordValue) → Ok operand ≡ or_at (atom_value names here atom) from to
    → (next : WordValue) → Ok next ≡ or_at (outcome_of operator value operand) start to
    → (expression_at names here start text ≡ terms_at names here start (start + (length text - length after)) next (terms_of after)) × (length after ≤ length text)
term-taken names here start text value rest now most operator some fits second atom after d a r from to f t operand e next o =
    let places = term-places start text rest second after operator most fits d r in
    let body = drop (operator_length operator) rest in
    let left : after ≡ drop (length (atom_in body)) body = rw (← d) r in
    let outcome : operated_at names here start (start + (length text - length rest)) value (term_at operator rest) ≡ Ok next =
    rw (← places.0, ← places.1.0, ← f, ← t, ← d, ← a, ← e) (sym o) in
    (rw (places.1.0, left) (now ∙ step names here start (start + (length text - length rest)) value operator rest some (Ok next) outcome), places.1.1)

done : (names : NamesValue) (here : WordValue) (start place : ℕ) (value : WordValue) (rest : List ℕ) → operator_at rest ≡ None
    → terms_at names here start place value (terms_of rest) ≡ Ok (value, place)
unfolding terms_at
done names here start place value rest none = rw (terms_of-none rest none) refl

pub terms-done : (names : NamesValue) (here : WordValue) (start : ℕ) (text : List ℕ) (value : WordValue) (rest : List ℕ)
    → expression_at names here start text ≡ terms_at names here start (start + (length text - length rest)) value (terms_of rest)
    → operator_at rest ≡ None → (last : ℕ) → last ≡ start + (length text - length rest)
    → Ok (value, last) ≡ expression_at names here start text
terms-done names here start text value rest now none last l =
    rw l (sym (now ∙ done names here start (start + (length text - length rest)) value rest none))
