-- A write of the memory: bytes take the places of those from a byte on, and each cell in which one of them lies is set to its word.
use Rattle.std.specs.Prelude.{◌≡◌, ℕ, ◌+◌, ◌-◌, ◌*◌, ◌/◌, ◌==◌, List, [], ◌∷◌, codes, length, nat_lt, slice_index_or, take, Result, Ok, Err, ok_or, if◌then◌else◌}
use Rattle.std.specs.List.{range_with_len}
use Rattle.base64.specs.Engines.{standard}
use Rattle.base64.specs.GeneralPurpose.{decode_of}
use Rattle.base64.specs.declared.decode.DecodeError.{DecodeError}
use Rattle.mix_word.specs.Word.{WordValue}
use Rattle.mix_machine.specs.World.{WorldState}
use Rattle.mix_machine.specs.declared.old.Change.TheVariants as change
use Rattle.mix_refused.specs.declared.refused.Refused.{Refused}
use Rattle.mix_refused.specs.declared.refused.Refused.TheVariants as refused
use Rattle.mix_session.specs.Prelude.{SessionState, Timeline, with_change, world_of}
use Rattle.rpc_message.specs.declared.request.Request.{Request}
use Rattle.rpc_message.specs.Request.{text_of}
use Rattle.dap_asked.specs.Layout.{memory_byte, word_of}
use Rattle.dap_asked.specs.declared.fault.Fault.{Fault}
use Rattle.dap_asked.specs.Memory.{start_asked}
use Rattle.dap_asked.specs.declared.fault.Fault.TheVariants as fault
use Rattle.mixal_text.specs.Steps.{◌>>=◌}

-- the bytes that a text in base64 stands for
abbrev pub decoded : Result (List ℕ) DecodeError → Result (List ℕ) Fault
decoded (Ok bytes) = Ok bytes
decoded (Err wrong) = Err fault.BadArgument

abbrev pub bytes_asked : Request → Result (List ℕ) Fault
bytes_asked r = do
  text ← ok_or (text_of r (codes "data")) fault.BadArgument
  decoded (decode_of standard text)

-- a byte of the memory, where bytes were written from one on
abbrev pub byte_with : WorldState → ℕ → List ℕ → ℕ → ℕ
byte_with w start bytes at = if nat_lt at start then memory_byte w at else slice_index_or bytes (at - start) (memory_byte w at)

-- what stands at a number and the five after it
abbrev pub six : (ℕ → ℕ) → ℕ → List ℕ
six byte at = byte at ∷ byte (at + 1) ∷ byte (at + 2) ∷ byte (at + 3) ∷ byte (at + 4) ∷ byte (at + 5) ∷ []

-- the word of a cell then: its six bytes, if they are those of a word
abbrev pub word_with : WorldState → ℕ → List ℕ → ℕ → Result WordValue Fault
word_with w start bytes cell = ok_or (word_of (six (byte_with w start bytes) (cell * 6))) fault.BadArgument

-- cells, each with its word then; the first that has none refuses all
abbrev pub cells_with : (ℕ → Result WordValue Fault) → List ℕ → Result (List (ℕ × WordValue)) Fault
cells_with word [] = Ok []
cells_with word (cell ∷ rest) = do
  value ← word cell
  more ← cells_with word rest
  Ok ((cell, value) ∷ more)

-- the cells in which so many bytes from one on lie: from that of the first byte to that of the last
abbrev pub cells_of : ℕ → ℕ → List ℕ
cells_of start count = if count == 0 then [] else range_with_len (start / 6) ((start + count - 1) / 6 + 1 - start / 6)

-- the cells that bytes set from one on; bytes beyond the memory refuse all
abbrev pub cells_written : WorldState → ℕ → List ℕ → Result (List (ℕ × WordValue)) Fault
cells_written w start bytes =
    if nat_lt (24000 - start) (length bytes) then Err fault.NoSuchThing else cells_with (word_with w start bytes) (cells_of start (length bytes))

-- what `writeMemory` asks for: the cells with their words, and how many bytes are written
abbrev pub write_asked : SessionState → Request → Result (List (ℕ × WordValue) × ℕ) Fault
write_asked s r = do
  start ← start_asked r
  bytes ← bytes_asked r
  cells ← cells_written (world_of s.timeline) start bytes
  Ok (cells, length bytes)

-- how many that is, and the answer that tells it
abbrev pub count_written : Result (List (ℕ × WordValue) × ℕ) Fault → ℕ
count_written (Ok asked) = asked.1
count_written (Err wrong) = 0

-- cells are set, one after the other
abbrev pub with_cells : Timeline → List (ℕ × WordValue) → Timeline
with_cells t [] = t
with_cells t (cell ∷ rest) = with_cells (with_change t (change.SetCell cell.0 cell.1)) rest

-- for want of memory the first of them are, or all
abbrev pub SetsSome : Timeline → List (ℕ × WordValue) → Timeline → Type 0
SetsSome t cells new = (k : ℕ) × (new ≡ with_cells t (take k cells))

-- what is asked for is written: just its cells are set
abbrev pub Written : Result (List (ℕ × WordValue) × ℕ) Fault → Timeline → Timeline → Type 0
Written (Ok asked) t new = new ≡ with_cells t asked.0
Written (Err wrong) t new = ⊥

-- it is begun, for want of memory
abbrev pub WrittenSome : Result (List (ℕ × WordValue) × ℕ) Fault → Timeline → Timeline → Type 0
WrittenSome (Ok asked) t new = SetsSome t asked.0 new
WrittenSome (Err wrong) t new = new ≡ t

-- what is left by a write that is answered so: a refusal has its reason, and leaves everything as it was
abbrev pub Writes : {T : Type 0} → Result (List (ℕ × WordValue) × ℕ) Fault → Timeline → Timeline → Result T (Refused Fault) → Type 0
Writes asked t new (Ok done) = Written asked t new
Writes asked t new (Err (refused.Fault why)) = (new ≡ t) × (asked ≡ Err why)
Writes asked t new (Err refused.Memory) = WrittenSome asked t new
