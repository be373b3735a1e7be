-- An assertion on a state of the machine (1.2.1): that two numbers are in a relation. -0 and +0 are one number.
use Rattle.std.specs.Prelude.{ℕ, ℤ, int_lt, not, Bool, List, [], ◌∷◌, codes}
use Rattle.std.specs.Ordering.{int_eq}
use Rattle.mix_word.specs.Word.{number_of}
use Rattle.mix_machine.specs.World.{WorldState}
use Rattle.mix_passages.specs.Passages.{AssertionValue, word_of}
use Rattle.mix_passages.specs.declared.asked.Relation.{Relation}
use Rattle.mix_passages.specs.declared.asked.Relation.TheVariants.{Less, LessOrEqual, Equal, NotEqual, GreaterOrEqual, Greater}
use Rattle.mix_passages.specs.declared.asked.Side.{Side}
use Rattle.mix_passages.specs.declared.asked.Side.TheVariants.{Number, Of}

-- how a relation is written
abbrev pub relation_name : Relation → List ℕ
relation_name Less = codes "<"
relation_name LessOrEqual = codes "<="
relation_name Equal = codes "="
relation_name NotEqual = codes "<>"
relation_name GreaterOrEqual = codes ">="
relation_name Greater = codes ">"

abbrev pub all_relations : List Relation
all_relations = Less ∷ LessOrEqual ∷ Equal ∷ NotEqual ∷ GreaterOrEqual ∷ Greater ∷ []

-- whether two numbers are in a relation
abbrev pub is_related : Relation → ℤ → ℤ → Bool
is_related Less p q = int_lt p q
is_related LessOrEqual p q = not (int_lt q p)
is_related Equal p q = int_eq p q
is_related NotEqual p q = not (int_eq p q)
is_related GreaterOrEqual p q = not (int_lt p q)
is_related Greater p q = int_lt q p

-- the number that stands on a side: itself, or that of the word of a register or a cell
abbrev pub number_on : WorldState → Side → ℤ
number_on w (Number n) = n
number_on w (Of item) = number_of (word_of w item)

-- whether an assertion is true of a state
abbrev pub holds : WorldState → AssertionValue → Bool
holds w assertion = is_related assertion.relation (number_on w assertion.left) (number_on w assertion.right)
