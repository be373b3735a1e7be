-- A frame as it is heard: the request that its body is, or why it is none.
use Rattle.std.specs.Prelude.{◌≡◌, ℕ, List, Option, None, Some, is_some, Result, Ok, Err, if◌then◌else◌}
use Rattle.std.specs.Str.{is_utf8}
use Rattle.serde_json.specs.Data.{Data}
use Rattle.serde_json.specs.Read.{read}
use Rattle.serde_json.specs.View.{view}
use Rattle.rpc_message.specs.declared.request.MessageFault.{MessageFault}
use Rattle.rpc_message.specs.declared.request.MessageFault.TheVariants.{NotJson, NotRequest}
use Rattle.rpc_message.specs.declared.request.Request.{Request}
use Rattle.rpc_message.specs.Members.{request_seq}

-- the message of a request, or the fault of its body; none where its header gives no length of a body
abbrev pub Frame : Type 0
Frame = Result Data (Option MessageFault)

-- the message that a body is: its JSON, where it is UTF-8
abbrev pub message_in : List ℕ → Option Data
message_in body = if is_utf8 body then read body else None

abbrev pub frame_with : Option Data → Frame
frame_with None = Err (Some NotJson)
frame_with (Some message) = if is_some (request_seq message) then Ok message else Err (Some NotRequest)

-- the frame of a body
abbrev pub frame_in : List ℕ → Frame
frame_in body = frame_with (message_in body)

-- the body of a frame, or none where its header gives no length
abbrev pub Body : Type 0
Body = Option (List ℕ)

abbrev pub asked_by : Body → Frame
asked_by None = Err None
asked_by (Some body) = frame_in body

-- the request that a message is, as the program has it: with its number
abbrev pub IsRequest : Request → Data → Type 0
IsRequest request message = (view request.message ≡ message) × (request_seq message ≡ Some request.seq)
