-- Exchanges that are broken off, by a write that fails or for want of memory, and what was sent of them.
use Rattle.std.specs.Prelude.{◌≡◌, ◌⊎◌, ℕ, List, [], ◌∷◌, ◌++◌, Option}
use Rattle.serde_json.specs.Data.{Data}
use Rattle.rpc_stream.specs.Asked.{Frame}
use Rattle.rpc_stream.specs.Heard.{Hears}
use Rattle.rpc_stream.specs.Sent.{AreTextsOf, frames_of}
use Rattle.rpc_stream.specs.Serving.{Phase, going}
use Rattle.rpc_stream.specs.Talk.{Talks}
use Rattle.mix_stream.specs.Stream.{AppendsFront}

-- of the messages the first ones are sent, one after the other, and of the last of these perhaps only a beginning
abbrev pub SendsFront : List Data → Option (List ℕ) → Option (List ℕ) → Type 0
SendsFront messages told now = (first : List Data) × (others : List Data) × (texts : List (List ℕ))
    × (messages ≡ first ++ others) × AreTextsOf texts first × AppendsFront told now (frames_of texts)

-- What is told for a frame up to where its exchange is broken off: nothing yet, or its answer.
abbrev pub Begins : {S : Type 0} → (Phase S → Frame → List Data → Phase S → Type 0) → S → Frame → List Data → Type 0
Begins {S} step s frame told = (told ≡ []) ⊎ ((next : Phase S) × step (going s) frame told next)

-- A talk was had up to an exchange that was broken off: all exchanges before it are whole, its frame was heard, and of what is told for it up to there a
-- beginning was sent, and nothing else was.
pub record BrokenOff {S : Type 0} (step : Phase S → Frame → List Data → Phase S → Type 0) (s : S) (old new told now : Option (List ℕ)) : Type 0 where
  pub state : S
  pub count : ℕ
  pub rest : Option (List ℕ)
  pub before : Option (List ℕ)
  pub talks : Talks step (going s) (going state) count old rest told before
  pub frame : Frame
  pub hears : Hears rest (frame ∷ []) new
  pub messages : List Data
  pub begins : Begins step state frame messages
  pub sends : SendsFront messages before now
