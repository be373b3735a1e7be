-- Expressions (1.3.2): an atom, a sign and an atom, or an expression, an operator and an atom. Operations are done
-- strictly from left to right, and the first fault from the left is the answer. A text may stand at a place, from which its bytes
-- are counted on.
use Rattle.std.specs.Prelude.{ℕ, zero, suc, ◌+◌, ◌==◌, List, [], ◌∷◌, length, drop, Option, Some, None, Result, Ok, Err, if◌then◌else◌}
use Rattle.mix_word.specs.declared.word.Sign.{Sign}
use Rattle.mix_word.specs.declared.word.Sign.TheVariants.{Plus, Minus}
use Rattle.mix_word.specs.Word.{WordValue, negation_of}
use Rattle.mixal_text.specs.declared.fault.TextFault.TheVariants.{BadExpression}
use Rattle.mixal_text.specs.declared.misread.Misread.{Misread}
use Rattle.mixal_text.specs.declared.operator.Operator.{Operator}
use Rattle.mixal_text.specs.Misread.{misread, or_at}
use Rattle.mixal_text.specs.Steps.{◌>>=◌}
use Rattle.mixal_text.specs.Names.{NamesValue}
use Rattle.mixal_text.specs.Operator.{operator_at, operator_length, outcome_of}
use Rattle.mixal_text.specs.Atom.{atom_in, atom_value}

-- an operator and the atom after it
pub record Term : Type 0 where
  pub operator : Operator
  pub atom : List ℕ

-- an expression in its parts
pub record Expression : Type 0 where
  pub sign : Option Sign
  pub first : List ℕ
  pub terms : List Term

-- ---- how a text is cut into these parts

-- the sign that begins a text
unfoldable pub sign_at : List ℕ → Option Sign
sign_at [] = None
sign_at (byte ∷ rest) = if byte == 43 then Some Plus else (if byte == 45 then Some Minus else None)

abbrev pub sign_length : Option Sign → ℕ
sign_length None = 0
sign_length (Some sign) = 1

abbrev pub term_length : Term → ℕ
term_length term = operator_length term.operator + length term.atom

-- an operator that was found, the atom after it, and what more there is after that
abbrev pub terms_from : Option Operator → List ℕ → (List ℕ → List Term) → List Term
terms_from None text more = []
terms_from (Some operator) text more =
    let after = drop (operator_length operator) text in
    record { operator = operator; atom = atom_in after } ∷ more (drop (length (atom_in after)) after)

-- the terms that begin a text, at most so many
unfoldable pub terms_in : ℕ → List ℕ → List Term
terms_in zero text = []
terms_in (suc n) text = terms_from (operator_at text) text (terms_in n)

-- all of them: a text has no more terms than bytes
abbrev pub terms_of : List ℕ → List Term
terms_of text = terms_in (length text) text

-- the expression that begins a text
unfoldable pub expression_in : List ℕ → Expression
expression_in text =
    let body = drop (sign_length (sign_at text)) text in
    record {
      sign = sign_at text;
      first = atom_in body;
      terms = terms_of (drop (length (atom_in body)) body);
    }

-- ---- its value

-- a leading minus sign negates the word
abbrev pub value_after_sign : Option Sign → WordValue → WordValue
value_after_sign None value = value
value_after_sign (Some Plus) value = value
value_after_sign (Some Minus) value = negation_of value

-- a term, by where the expression and the term begin. At fault is its atom, or all up to an operation that cannot be done
abbrev pub operated_at : NamesValue → WordValue → ℕ → ℕ → WordValue → Term → Result WordValue Misread
operated_at names here start place value term = do
  operand ← or_at (atom_value names here term.atom) (place + operator_length term.operator) (place + term_length term)
  or_at (outcome_of term.operator value operand) start (place + term_length term)

-- the operations of the terms on a value, from left to right: the value, and where the last term ends
unfoldable pub terms_at : NamesValue → WordValue → ℕ → ℕ → WordValue → List Term → Result (WordValue × ℕ) Misread
terms_at names here start place value [] = Ok (value, place)
terms_at names here start place value (term ∷ more) = do
  next ← operated_at names here start place value term
  terms_at names here start (place + term_length term) next more

-- an expression that begins at a place, where the asterisk stands for `here`: its value, and where it ends
abbrev pub parts_at : NamesValue → WordValue → ℕ → Expression → Result (WordValue × ℕ) Misread
parts_at names here start e = do
  first ← or_at (atom_value names here e.first) (start + sign_length e.sign) (start + (sign_length e.sign + length e.first))
  terms_at names here start (start + (sign_length e.sign + length e.first)) (value_after_sign e.sign first) e.terms

unfoldable pub expression_at : NamesValue → WordValue → ℕ → List ℕ → Result (WordValue × ℕ) Misread
expression_at names here start text = parts_at names here start (expression_in text)

-- the value of the expression that begins a text, and how many bytes it has
abbrev pub expression_of : NamesValue → WordValue → List ℕ → Result (WordValue × ℕ) Misread
expression_of names here text = expression_at names here 0 text

-- a text that is one expression and nothing else; what is left over is a bad expression
unfoldable pub whole_at : NamesValue → WordValue → ℕ → List ℕ → Result WordValue Misread
whole_at names here start text = do
  value ← expression_at names here start text
  if value.1 == start + length text then Ok value.0 else Err (misread BadExpression value.1 (start + length text))

abbrev pub whole_expression : NamesValue → WordValue → List ℕ → Result WordValue Misread
whole_expression names here text = whole_at names here 0 text
