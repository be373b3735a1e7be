-- What is seen of the reader and the writer for tests.
use Rattle.std.specs.Prelude.{ℕ, List}

-- the bytes that are still to be read, and how many reads have failed
pub record ChunksValue : Type 0 where
  pub rest : List ℕ
  pub failed : ℕ

-- the bytes that were written, and how many writes have failed
pub record SinkValue : Type 0 where
  pub told : List ℕ
  pub failed : ℕ
