-- What the tool writes and the status with which it ends: a function of the source, the deck and the script.
use Rattle.std.specs.Prelude.{◌≡◌, ◌≢◌, ◌≤◌, ℕ, Bool, true, false, Option, List, [], ◌∷◌, ◌++◌, Result, Ok, Err, length, nat_lt, if◌then◌else◌}
use Rattle.std.specs.Io.KnownBytes.{Appends, Keeps}
use Rattle.mixal_asm.specs.Prelude.{assembly, asm_fault_line, listing, ProgramValue}
use Rattle.mixal_asm.specs.declared.fault.AsmFault.{AsmFault}
use Rattle.mix_session.specs.Prelude.{SessionState, opened, effect_in, after, reply_of, told_of, told_of_both}
use Rattle.mix_session.specs.declared.reply.Told.{Told}
pub use Rattle.mix_files.specs.Bundle.{max_bundle_bytes}
use Rattle.mix_files.specs.Bundle.{cut_of}
use Rattle.mix_machine.specs.Prelude.{UnitsState, deck_of}
use Rattle.mix_machine.specs.declared.units.deck_fault.DeckFault.{DeckFault}
use Rattle.mix_lines.specs.Lines.{lines}
use Rattle.mix_stream.specs.Stream.{AppendsFront}
use Rattle.mix_run.specs.declared.fault.ToolFault.{ToolFault}
use Rattle.mix_run.specs.declared.fault.ToolFault.TheVariants as faults
use Rattle.mix_session.specs.declared.reply.Told.TheVariants.{Accepted, Refused}

-- how many bytes a script may have
abbrev pub max_script_bytes : ℕ
max_script_bytes = 1048576

-- how a run ends: with these bytes and this status, or, with no byte written, for its deck or the length of its input
pub data Outcome : Type 0 where
  Ended : List ℕ → ℕ → Outcome
  DeckRefused : DeckFault → Outcome
  TooLong : Outcome

-- the replies to a script, and whether each command is accepted
pub record Replies : Type 0 where
  pub bytes : List ℕ
  pub told : Told

-- what is written before the reply to a line: the line itself, where the commands of a script are echoed
abbrev pub echo_of : Bool → List ℕ → List ℕ
echo_of true line = line ++ 10 ∷ []
echo_of false line = []

-- what is written of a line: the reply, after the line where it is echoed
abbrev pub said_of : Bool → SessionState → List ℕ → List ℕ
said_of echo s line = echo_of echo line ++ reply_of s.program (effect_in s line)

-- the replies to the lines, one after the other, each in the session that the ones before it left
abbrev pub replies_of : Bool → SessionState → List (List ℕ) → Replies
replies_of echo s [] = record { bytes = []; told = Accepted }
replies_of echo s (line ∷ rest) =
    let effect = effect_in s line in
    let more = replies_of echo (record s { timeline = after effect }) rest in
    record { bytes = said_of echo s line ++ more.bytes; told = told_of_both (told_of effect.answer) more.told }

-- the replies alone
abbrev pub replies : SessionState → List (List ℕ) → Replies
replies s all = replies_of false s all

-- the status of a script: 0 where each command is accepted, else 3
abbrev pub status_of : Told → ℕ
status_of Accepted = 0
status_of Refused = 3

-- what a run that ends may answer: 2 is for the faults of the tool
abbrev pub IsStatus : ℕ → Type 0
IsStatus status = (status ≤ 3) × (status ≢ 2)

-- a refused source: its first fault is all that is written
abbrev pub refusal_of : AsmFault → Outcome
refusal_of fault = Ended (asm_fault_line fault ++ 10 ∷ []) 1

-- a script in a session
unfoldable pub outcome_of_script : Bool → SessionState → List ℕ → Outcome
outcome_of_script echo s script =
    if nat_lt max_script_bytes (length script) then TooLong
    else (let all = replies_of echo s (lines script) in Ended all.bytes (status_of all.told))

-- an assembled program, with its deck and its script
unfoldable pub outcome_of : Bool → Result ProgramValue AsmFault → Result UnitsState DeckFault → List ℕ → Outcome
outcome_of echo (Err fault) deck script = refusal_of fault
outcome_of echo (Ok program) (Err fault) script = DeckRefused fault
outcome_of echo (Ok program) (Ok units) script = outcome_of_script echo (opened program units) script

-- source, deck and script, whose commands are echoed or not
unfoldable pub output : Bool → List ℕ → List ℕ → List ℕ → Outcome
output echo source deck script = outcome_of echo (assembly source) (deck_of deck) script

-- a bundle, cut into its parts
unfoldable pub bundle_output : List ℕ → Outcome
bundle_output input =
    if nat_lt max_bundle_bytes (length input) then TooLong
    else (let parts = cut_of input in output false parts.source parts.deck parts.script)

-- a listing, or the first fault of its source
abbrev pub list_outcome : Result ProgramValue AsmFault → Outcome
list_outcome (Err fault) = refusal_of fault
list_outcome (Ok program) = Ended (listing program) 0

unfoldable pub list_output : List ℕ → Outcome
list_output source = list_outcome (assembly source)

-- the bytes that an outcome writes
abbrev pub bytes_of : Outcome → List ℕ
bytes_of (Ended bytes status) = bytes
bytes_of (DeckRefused fault) = []
bytes_of TooLong = []

-- What a call answers and writes is the outcome. Where memory is refused, or a write fails, a beginning of its bytes has been written;
-- where a read fails, none.
abbrev pub Meets : Outcome → Result ℕ ToolFault → Option (List ℕ) → Option (List ℕ) → Type 0
Meets outcome (Ok status) old new = (outcome ≡ Ended (bytes_of outcome) status) × Appends old new (bytes_of outcome)
Meets outcome (Err (faults.Deck fault)) old new = (outcome ≡ DeckRefused fault) × Keeps old new
Meets outcome (Err faults.Long) old new = (outcome ≡ TooLong) × Keeps old new
Meets outcome (Err faults.Memory) old new = AppendsFront old new (bytes_of outcome)
Meets outcome (Err faults.Write) old new = AppendsFront old new (bytes_of outcome)
Meets outcome (Err faults.Read) old new = Keeps old new
