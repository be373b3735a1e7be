-- A talk: frames are heard one after the other, and for each of them messages are sent.
use Rattle.std.specs.Prelude.{◌≡◌, ℕ, List, [], ◌∷◌, ◌++◌, length, Option}
use Rattle.serde_json.specs.Data.{Data}
use Rattle.rpc_stream.specs.Asked.{Frame}
use Rattle.rpc_stream.specs.Heard.{Hears}
use Rattle.rpc_stream.specs.Sent.{SendsAll}

-- a frame that was heard, the message of a request or none, and the messages that are sent for it
pub record Exchange : Type 0 where
  pub frame : Frame
  pub told : List Data

-- the frames of exchanges, and their messages, one after the other
abbrev pub frames : List Exchange → List Frame
frames [] = []
frames (exchange ∷ rest) = exchange.frame ∷ frames rest

abbrev pub messages : List Exchange → List Data
messages [] = []
messages (exchange ∷ rest) = exchange.told ++ messages rest

-- exchanges that lead from one state to another, where each of them is such a step
abbrev pub Leads : {S : Type 0} → (S → Frame → List Data → S → Type 0) → S → List Exchange → S → Type 0
Leads step s [] t = t ≡ s
Leads {S} step s (exchange ∷ rest) t = (mid : S) × step s exchange.frame exchange.told mid × Leads step mid rest t

-- Part of a talk, of so many exchanges by such steps, from one state to another: their frames are heard, one after the other, and a text of each of their
-- messages is sent, in its frame and in its turn, and nothing else is.
pub record Talks {S : Type 0} (step : S → Frame → List Data → S → Type 0) (s t : S) (count : ℕ) (old new told now : Option (List ℕ)) : Type 0 where
  pub exchanges : List Exchange
  pub counts : length exchanges ≡ count
  pub hears : Hears old (frames exchanges) new
  pub sends : SendsAll (messages exchanges) told now
  pub leads : Leads step s exchanges t

-- the messages of one exchange are sent
abbrev pub Trades : {S : Type 0} → (S → Frame → List Data → S → Type 0) → S → Frame → S → Option (List ℕ) → Option (List ℕ) → Type 0
Trades step s frame t told now = (messages : List Data) × step s frame messages t × SendsAll messages told now
