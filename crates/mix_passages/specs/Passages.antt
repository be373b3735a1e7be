-- What is asked of the passages of a line: its location, columns of chosen values, and an assertion.
use Rattle.std.specs.Prelude.{ℕ, List, Option}
use Rattle.mix_word.specs.Word.{WordValue}
use Rattle.mix_machine.specs.World.{WorldState, register_of, cell_of}
use Rattle.mix_passages.specs.declared.asked.Item.{Item}
use Rattle.mix_passages.specs.declared.asked.Item.TheVariants.{Register, Cell}
use Rattle.mix_passages.specs.declared.asked.Relation.{Relation}
use Rattle.mix_passages.specs.declared.asked.Side.{Side}

-- a column, with the name at its head
pub record ColumnValue : Type 0 where
  pub name : List ℕ
  pub item : Item

-- that two numbers are in a relation, with the words that say so
pub record AssertionValue : Type 0 where
  pub left : Side
  pub relation : Relation
  pub right : Side
  pub words : List ℕ

pub record PassagesValue : Type 0 where
  pub place : ℕ
  pub columns : List ColumnValue
  pub assertion : Option AssertionValue

-- the word that a register or a cell holds
abbrev pub word_of : WorldState → Item → WordValue
word_of w (Register r) = register_of w r
word_of w (Cell p) = cell_of w p
