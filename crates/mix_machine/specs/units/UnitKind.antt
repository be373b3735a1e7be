-- The kinds of units: what each can do, and how long its blocks are (1.3.1, "Input-output operators").
use Rattle.std.specs.Prelude.{ℕ, Bool, true, false, List, [], ◌∷◌, ◌++◌, replicate, slice_index_or}
use Rattle.mix_machine.specs.declared.units.kind.UnitKind.{UnitKind}
use Rattle.mix_machine.specs.declared.units.kind.UnitKind.TheVariants.{Tape, Disk, CardReader, CardPunch, Printer, Typewriter, PaperTape}

-- the kind of each unit: 0 to 7, 8 to 15, and then one by one
abbrev pub kinds : List UnitKind
kinds = replicate 8 Tape ++ replicate 8 Disk ++ CardReader ∷ CardPunch ∷ Printer ∷ Typewriter ∷ PaperTape ∷ []

abbrev pub kind_of : ℕ → UnitKind
kind_of n = slice_index_or kinds n Tape

-- how many words a block, or a row, has
abbrev pub block_length : UnitKind → ℕ
block_length Tape = 100
block_length Disk = 100
block_length CardReader = 16
block_length CardPunch = 16
block_length Printer = 24
block_length Typewriter = 14
block_length PaperTape = 14

-- whether it reads block after block, from a place on
abbrev pub has_place : UnitKind → Bool
has_place Tape = true
has_place Disk = false
has_place CardReader = true
has_place CardPunch = false
has_place Printer = false
has_place Typewriter = true
has_place PaperTape = true

-- whether it reads back the blocks that it writes
abbrev pub has_medium : UnitKind → Bool
has_medium Tape = true
has_medium Disk = true
has_medium CardReader = false
has_medium CardPunch = false
has_medium Printer = false
has_medium Typewriter = false
has_medium PaperTape = false

-- whether it writes rows, which it never reads
abbrev pub has_output : UnitKind → Bool
has_output Tape = false
has_output Disk = false
has_output CardReader = false
has_output CardPunch = true
has_output Printer = true
has_output Typewriter = true
has_output PaperTape = true
