-- What is sent for messages.
use Rattle.std.specs.Prelude.{ℕ, List, [], ◌∷◌, ◌++◌, Option}
use Rattle.std.specs.Io.KnownBytes.{Appends}
use Rattle.serde_json.specs.Data.{Data}
use Rattle.rpc_frame.specs.Frame.{frame_of}
use Rattle.rpc_message.specs.Message.{IsTextOf}

-- texts of messages, one of each, in their order
abbrev pub AreTextsOf : List (List ℕ) → List Data → Type 0
AreTextsOf [] [] = Unit {0}
AreTextsOf [] (message ∷ messages) = ⊥
AreTextsOf (text ∷ texts) [] = ⊥
AreTextsOf (text ∷ texts) (message ∷ messages) = IsTextOf text message × AreTextsOf texts messages

-- the frames of texts, one after the other
abbrev pub frames_of : List (List ℕ) → List ℕ
frames_of [] = []
frames_of (text ∷ texts) = frame_of text ++ frames_of texts

-- a text of each message, in its frame, one after the other, and nothing else
abbrev pub SendsAll : List Data → Option (List ℕ) → Option (List ℕ) → Type 0
SendsAll messages old new = (texts : List (List ℕ)) × AreTextsOf texts messages × Appends old new (frames_of texts)
