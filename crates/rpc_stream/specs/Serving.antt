-- What is sent for a frame: its answer.
use Rattle.std.specs.Prelude.{◌≡◌, ℕ, List, [], ◌∷◌, Option, None, Some, Ok, Err, codes}
use Rattle.serde_json.specs.Data.{Data}
use Rattle.rpc_message.specs.declared.request.MessageFault.{MessageFault}
use Rattle.rpc_message.specs.declared.request.MessageFault.TheVariants.{NotJson, NotRequest}
use Rattle.rpc_message.specs.declared.request.Request.{Request}
use Rattle.rpc_message.specs.Message.{next_seq, output_message}
use Rattle.rpc_stream.specs.Asked.{Frame, IsRequest}
use Rattle.rpc_stream.specs.declared.serves.Turn.{Turn}
use Rattle.rpc_stream.specs.declared.serves.Turn.TheVariants as turn

-- what the one who debugs is told of a frame that is no request
abbrev pub unclear_text : Option MessageFault → List ℕ
unclear_text None = codes "a header without Content-Length\n"
unclear_text (Some NotJson) = codes "a message that is not JSON\n"
unclear_text (Some NotRequest) = codes "a message that is not a request\n"

-- it is the only message, with the next number
abbrev pub unclear_told : ℕ → Option MessageFault → List Data
unclear_told seq why = output_message (next_seq seq) (codes "important") (unclear_text why) ∷ []

-- A frame is answered, a request by what serves it. One that is no request is told of, and changes nothing but the number of the last message, which stands
-- beside the state of what serves.
abbrev pub Takes : {S : Type 0} → (S × ℕ → Request → List Data → Turn → S × ℕ → Type 0) → S × ℕ → Frame → List Data → Turn → S × ℕ → Type 0
Takes serves s (Err why) told next t = (told ≡ unclear_told s.1 why) × (next ≡ turn.On) × (t ≡ (s.0, next_seq s.1))
Takes serves s (Ok message) told next t = (request : Request) × IsRequest request message × serves s request told next t

-- where a talk is: it goes on, or the client is done
pub data Phase (S : Type 0) : Type 0 where
  going : S → Phase S
  over : S → Phase S

-- One exchange of a talk: a frame is answered. Where the client is done, nothing more is.
abbrev pub Steps : {S : Type 0} → (S × ℕ → Request → List Data → Turn → S × ℕ → Type 0) → Phase (S × ℕ) → Frame → List Data → Phase (S × ℕ) → Type 0
Steps serves (going s) frame told (going t) = Takes serves s frame told turn.On t
Steps serves (going s) frame told (over t) = Takes serves s frame told turn.Over t
Steps serves (over s) frame told next = ⊥
