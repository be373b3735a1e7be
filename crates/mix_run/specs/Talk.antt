-- A talk: each line is answered before more is read.
use Rattle.std.specs.Prelude.{◌≡◌, Bool, true, false, ℕ, List, [], ◌∷◌, ◌++◌, Option, Some, Result, Ok, Err, nat_lt, length}
use Rattle.std.specs.List.{list_any}
use Rattle.std.specs.Io.KnownBytes.{Appends}
use Rattle.mix_lines.specs.Lines.{is_line_feed, lines}
use Rattle.mixal_asm.specs.Prelude.{assembly, ProgramValue}
use Rattle.mixal_asm.specs.declared.fault.AsmFault.{AsmFault}
use Rattle.mix_machine.specs.Prelude.{UnitsState, deck_of}
use Rattle.mix_machine.specs.declared.units.deck_fault.DeckFault.{DeckFault}
use Rattle.mix_run.specs.declared.fault.ToolFault.{ToolFault}
use Rattle.mix_run.specs.declared.fault.ToolFault.TheVariants as faults
use Rattle.mix_session.specs.declared.reply.Told.{Told}
use Rattle.mix_run.specs.Bundle.{OriginValue}
use Rattle.mix_run.specs.Debug.{origin_given}
use Rattle.mix_run.specs.Opening.{Files}
use Rattle.mix_run.specs.Output.{DeckRefused, Meets, refusal_of, status_of}
use Rattle.mix_run.specs.Reload.{begun}
use Rattle.mix_run.specs.Stretch.{talk_of}
use Rattle.mix_stream.specs.Stream.{AppendsFront}
use Rattle.mix_run.specs.declared.talk.aside.Talker.{Talker}
use Rattle.mix_run.specs.declared.talk.moment.Moment.{Moment}

-- how many bytes a line of a talk may have
abbrev pub max_line_bytes : ℕ
max_line_bytes = 1048576

-- whether a line has more
abbrev pub is_too_long : List ℕ → Bool
is_too_long line = nat_lt max_line_bytes (length line)

-- whether a text has whole lines alone: it is empty, or its last byte is a line feed
abbrev pub is_whole : List ℕ → Bool
is_whole [] = true
is_whole (byte ∷ []) = is_line_feed byte
is_whole (byte ∷ next ∷ rest) = is_whole (next ∷ rest)

-- What was written when no more could be read: exactly the replies to the whole lines of what had been read. They were answered before the
-- next read.
abbrev pub AnswersRead : Files → Moment → Talker → List ℕ → Option (List ℕ) → Option (List ℕ) → Option (List ℕ) → Type 0
AnswersRead all m talker text left old new =
    (front : List ℕ) × (part : List ℕ) × (rest : List ℕ) × (left ≡ Some rest) × (text ≡ front ++ (part ++ rest)) × (is_whole front ≡ true)
    × (list_any is_line_feed part ≡ false) × Appends old new (talk_of all m talker (lines front)).bytes

-- What a talk over this text answers and writes, which begins at this moment: at its end the replies to all its commands, and whether each was
-- accepted; where memory is refused, or a write fails, a beginning of them; where a read fails, or a line is too long, the replies to the lines before
-- that. These are the files that a line may source or reload.
abbrev pub Talks : Files → Moment → Talker → List ℕ → Result Told ToolFault → Option (List ℕ) → Option (List ℕ) → Option (List ℕ) → Type 0
Talks all m talker text (Ok told) left old new =
    let said = talk_of all m talker (lines text) in (told ≡ said.told) × Appends old new said.bytes
Talks all m talker text (Err faults.Read) left old new = AnswersRead all m talker text left old new
Talks all m talker text (Err faults.Long) left old new = AnswersRead all m talker text left old new
Talks all m talker text (Err faults.Memory) left old new = AppendsFront old new (talk_of all m talker (lines text)).bytes
Talks all m talker text (Err faults.Write) left old new = AppendsFront old new (talk_of all m talker (lines text)).bytes
Talks all m talker text (Err (faults.Deck fault)) left old new = ⊥

-- the status of a talk, and its fault
abbrev pub status_from : Result Told ToolFault → Result ℕ ToolFault
status_from (Ok told) = Ok (status_of told)
status_from (Err fault) = Err fault

-- the same with the status of what is answered
abbrev pub TalksTo : Files → Moment → Talker → List ℕ → Result ℕ ToolFault → Option (List ℕ) → Option (List ℕ) → Option (List ℕ) → Type 0
TalksTo all m talker text result left old new = (talk : Result Told ToolFault) × (result ≡ status_from talk) × Talks all m talker text talk left old new

-- A talk with the program of a source and the units of a deck: where one of them is refused, that is answered.
abbrev pub TalksWith : Files → OriginValue → Result ProgramValue AsmFault → Result UnitsState DeckFault → Talker → List ℕ → Result ℕ ToolFault
    → Option (List ℕ) → Option (List ℕ) → Option (List ℕ) → Type 0
TalksWith all origin (Err fault) units talker text result left old new = Meets (refusal_of fault) result old new
TalksWith all origin (Ok program) (Err fault) talker text result left old new = Meets (DeckRefused fault) result old new
TalksWith all origin (Ok program) (Ok units) talker text result left old new = TalksTo all (begun origin program units) talker text result left old new

-- a talk about a text of this name, with its own deck or with one that is given
abbrev pub TalksFrom : Files → List ℕ → Bool → List ℕ → List ℕ → Talker → List ℕ → Result ℕ ToolFault → Option (List ℕ) → Option (List ℕ)
    → Option (List ℕ) → Type 0
TalksFrom all name given text deck talker typed result left old new =
    let origin = origin_given name given text deck in
    TalksWith all origin (assembly origin.source) (deck_of origin.deck) talker typed result left old new
