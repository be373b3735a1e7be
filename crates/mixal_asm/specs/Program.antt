-- An assembled source (1.3.2): its words, its start, its names and what the listing has of it.
use Rattle.std.specs.Prelude.{ℕ, List}
use Rattle.mix_word.specs.Word.{WordValue}
use Rattle.mixal_asm.specs.PassOne.{NamesSoFar, RowValue}

pub record ProgramValue : Type 0 where
  -- the words with their places, in the order of the lines
  pub words : List (ℕ × WordValue)
  -- where the program begins: 0 to 3999
  pub start : ℕ
  -- the finished map of names, in the order in which they got their values
  pub names : NamesSoFar
  -- the rows of the listing: the lines before END, the lines that were inserted, and END
  pub rows : List RowValue
  -- how many future references there were
  pub patches : ℕ
