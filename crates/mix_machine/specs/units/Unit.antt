-- What one unit holds (1.3.1, "Input-output operators").
use Rattle.std.specs.Prelude.{ℕ, zero, suc, ◌-◌, ◌*◌, ◌/◌, ◌^◌, ◌≤◌, List, [], ◌∷◌, ◌++◌, length, replicate, take, drop, slice_index_or, slice_set}
use Rattle.mix_word.specs.Word.{WordValue, zero_word}
use Rattle.mix_machine.specs.units.UnitKind.{block_length}
use Rattle.mix_machine.specs.units.Row.{RowState}
use Rattle.mix_machine.specs.declared.units.kind.UnitKind.{UnitKind}

-- A unit: what it is; the blocks that it reads, and of which it reads next; the rows that it has written; how long
-- a transfer takes beside its step, and until when the last one does.
pub record UnitState : Type 0 where
  pub kind : UnitKind
  pub place : ℕ
  pub blocks : List (List WordValue)
  pub rows : List RowState
  pub delay : ℕ
  pub until : ℕ

-- the most blocks, and the most rows, that a unit holds
abbrev pub most_entries : ℕ
most_entries = 1000

abbrev pub last_delay : ℕ
last_delay = 10 ^ 18 - 1

abbrev pub last_until : ℕ
last_until = 2 * 10 ^ 18 - 1

-- what every unit meets: the place is that of a block or the one after the last
pub record IsUnit (u : UnitState) : Type 0 where
  pub place : u.place ≤ length u.blocks
  pub blocks : length u.blocks ≤ most_entries
  pub rows : length u.rows ≤ most_entries
  pub delay : u.delay ≤ last_delay
  pub until : u.until ≤ last_until

-- so many blocks of a length
abbrev pub blocks_in : ℕ → ℕ → List WordValue → List (List WordValue)
blocks_in zero size words = []
blocks_in (suc n) size words = take size words ∷ blocks_in n size (drop size words)

-- a unit of a kind with nothing in it
abbrev pub empty_unit : UnitKind → UnitState
empty_unit kind = record { kind = kind; place = 0; blocks = []; rows = []; delay = 0; until = 0 }

-- block i, counted from 0
abbrev pub block_of : UnitState → ℕ → List WordValue
block_of u i = slice_index_or u.blocks i []

-- word j of block i
abbrev pub word_of : UnitState → ℕ → ℕ → WordValue
word_of u i j = slice_index_or (block_of u i) j zero_word

-- the same unit but for one word of one block
abbrev pub with_word : UnitState → ℕ → ℕ → WordValue → UnitState
with_word u i j v = record u { blocks = slice_set u.blocks i (slice_set (block_of u i) j v) }

-- so many blocks of +0
abbrev pub zero_blocks : UnitKind → ℕ → List (List WordValue)
zero_blocks kind n = replicate n (replicate (block_length kind) zero_word)

-- the same unit with so many blocks of +0 and then one block more
abbrev pub with_blocks : UnitState → ℕ → List WordValue → UnitState
with_blocks u n block = record u { blocks = u.blocks ++ zero_blocks u.kind n ++ block ∷ [] }

-- the same unit with one row more
abbrev pub with_row : UnitState → RowState → UnitState
with_row u row = record u { rows = u.rows ++ row ∷ [] }

-- the same unit with the blocks that some words make, and at the first of them
abbrev pub filled : UnitState → List WordValue → UnitState
filled u words = record u { place = 0; blocks = blocks_in (length words / block_length u.kind) (block_length u.kind) words }
