-- The formulas in square brackets: sums of products of numbers, names and sums in brackets, as `N-1+B-A` and `(T+3)//4`.
use Rattle.std.specs.Prelude.{ℕ, zero, suc, ◌-◌, ◌==◌, ◌&&◌, ℤ, pos, List, [], ◌∷◌, length, Option, Some, None, Result, Ok, Err, if◌then◌else◌}
use Rattle.mix_lines.specs.Number.{is_digits, number_up_to}
use Rattle.mix_formula.specs.declared.arithmetic.Operator.{Operator}
use Rattle.mix_formula.specs.declared.arithmetic.Operator.TheVariants.{Add, Subtract, Multiply, Divide}
use Rattle.mix_formula.specs.declared.arithmetic.Reckoned.{Reckoned}
use Rattle.mix_formula.specs.declared.arithmetic.Reckoned.TheVariants.{Known, Unknown, TooLarge}
use Rattle.mix_formula.specs.declared.value.Value.{Value}
use Rattle.mix_formula.specs.declared.value.Value.TheVariants as told
use Rattle.mix_formula.specs.Arithmetic.{negated, outcome}
use Rattle.mix_formula.specs.Names.{NameValue, value_in}
use Rattle.mix_formula.specs.Text.{after_word, is_name, unblanked, word_in}

-- what the first part of a text comes to and the text after it, or how many bytes are left where it cannot be read
abbrev pub Reading : Type 0
Reading = Result (Reckoned × List ℕ) ℕ

abbrev pub then_read : Reading → (Reckoned → List ℕ → Reading) → Reading
then_read (Ok read) more = more read.0 read.1
then_read (Err left) more = Err left

-- ---- numbers and names

-- a number of at most 18 digits
abbrev pub number_value : Option ℕ → Reckoned
number_value (Some n) = Known (pos n)
number_value None = TooLarge

abbrev pub name_value_of : Option ℤ → Reckoned
name_value_of (Some value) = Known value
name_value_of None = Unknown

-- a word is a number if it has nothing but digits, and a name if it begins with a letter
unfoldable pub word_at : List NameValue → List ℕ → List ℕ → List ℕ → Reading
word_at names text word rest =
    if is_digits word then Ok (number_value (number_up_to 18 word), rest)
    else (if is_name word then Ok (name_value_of (value_in names word), rest) else Err (length text))

-- ---- parts: a number, a name, a sum in brackets, and one of these after a sign

-- the bracket that closes
unfoldable pub closed : Reckoned → List ℕ → Reading
closed value [] = Err 0
closed value (byte ∷ rest) = if byte == 41 then Ok (value, rest) else Err (length (byte ∷ rest))

-- a part without a sign, where `inner` is what reads a sum in brackets
unfoldable pub plain_part : List NameValue → (List ℕ → Reading) → List ℕ → Reading
plain_part names inner [] = Err 0
plain_part names inner (byte ∷ rest) =
    if byte == 40 then then_read (inner rest) (λ value after. closed value (unblanked after))
    else word_at names (byte ∷ rest) (word_in (byte ∷ rest)) (after_word (byte ∷ rest))

abbrev pub negative : Reading → Reading
negative reading = then_read reading (λ value rest. Ok (negated value, rest))

unfoldable pub signed_part : List NameValue → (List ℕ → Reading) → List ℕ → Reading
signed_part names inner [] = Err 0
signed_part names inner (byte ∷ rest) =
    if byte == 45 then negative (plain_part names inner (unblanked rest))
    else (if byte == 43 then plain_part names inner (unblanked rest) else plain_part names inner (byte ∷ rest))

-- ---- chains: parts with operators between them, which are done from left to right

-- the operators of products and of sums, and the text after them
unfoldable pub product_operator : List ℕ → Option (Operator × List ℕ)
product_operator [] = None
product_operator (first ∷ []) = if first == 42 then Some (Multiply, []) else None
product_operator (first ∷ second ∷ rest) =
    if first == 42 then Some (Multiply, second ∷ rest) else (if first == 47 && second == 47 then Some (Divide, rest) else None)

unfoldable pub sum_operator : List ℕ → Option (Operator × List ℕ)
sum_operator [] = None
sum_operator (first ∷ rest) = if first == 43 then Some (Add, rest) else (if first == 45 then Some (Subtract, rest) else None)

abbrev pub link : (List ℕ → Reading) → (Reckoned → List ℕ → Reading) → Reckoned → List ℕ → Option (Operator × List ℕ) → Reading
link part more value text None = Ok (value, text)
link part more value text (Some found) = then_read (part found.1) (λ next rest. more (outcome found.0 value next) rest)

-- a value, and so many links of a chain at most
unfoldable pub links : (List ℕ → Option (Operator × List ℕ)) → (List ℕ → Reading) → ℕ → Reckoned → List ℕ → Reading
links operator part zero value text = Ok (value, text)
links operator part (suc n) value text = link part (links operator part n) value text (operator (unblanked text))

-- a part and the links after it: no text has more of them than bytes
abbrev pub chain : (List ℕ → Option (Operator × List ℕ)) → (List ℕ → Reading) → List ℕ → Reading
chain operator part text = then_read (part text) (λ value rest. links operator part (length text) value rest)

-- ---- sums, in which brackets are at most so deep

abbrev pub part_by : List NameValue → (List ℕ → Reading) → List ℕ → Reading
part_by names inner text = signed_part names inner (unblanked text)

abbrev pub product_by : List NameValue → (List ℕ → Reading) → List ℕ → Reading
product_by names inner text = chain product_operator (part_by names inner) text

unfoldable pub sum_at : List NameValue → ℕ → List ℕ → Reading
sum_at names zero text = Err (length text)
sum_at names (suc depth) text = chain sum_operator (product_by names (sum_at names depth)) text

-- ---- the value of a formula

abbrev pub told_value : Reckoned → Value
told_value (Known n) = told.Known n
told_value Unknown = told.Unknown
told_value TooLarge = told.TooLarge

-- the end of a formula; what is left over cannot be read
abbrev pub ended : ℕ → Reckoned → List ℕ → Value
ended length_of value [] = told_value value
ended length_of value (byte ∷ rest) = told.Unreadable (length_of - length (byte ∷ rest))

abbrev pub value_read : ℕ → Reading → Value
value_read length_of (Ok read) = ended length_of read.0 (unblanked read.1)
value_read length_of (Err left) = told.Unreadable (length_of - left)

-- brackets are at most 63 deep
unfoldable pub value_of : List NameValue → List ℕ → Value
value_of names text = value_read (length text) (sum_at names 64 text)
