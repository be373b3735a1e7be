-- What names mean where an expression stands (1.3.2).
use Rattle.std.specs.Prelude.{ℕ, List, Option}
use Rattle.mix_word.specs.Word.{WordValue}

pub record NamesValue : Type 0 where
  -- the value of a symbol, by its name in capitals, where it is defined
  pub value : List ℕ → Option WordValue
  -- the value of the closest earlier dH, by the digit d, where there is one
  pub back : ℕ → Option WordValue
