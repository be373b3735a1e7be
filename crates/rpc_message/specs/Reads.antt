-- What a body is read as.
use Rattle.std.specs.Prelude.{◌≡◌, ℕ, List, Option, None, Some, Result, Ok, Err, IsUtf8}
use Rattle.serde_json.specs.Data.{Data}
use Rattle.serde_json.specs.Read.{read}
use Rattle.serde_json.specs.View.{view}
use Rattle.mix_refused.specs.declared.refused.Refused.{Refused}
use Rattle.mix_refused.specs.declared.refused.Refused.TheVariants.{Fault, Memory}
use Rattle.rpc_message.specs.Members.{request_seq}
use Rattle.rpc_message.specs.declared.request.MessageFault.{MessageFault}
use Rattle.rpc_message.specs.declared.request.MessageFault.TheVariants.{NotJson, NotRequest}
use Rattle.rpc_message.specs.declared.request.Request.{Request}

-- the message that a body is: its JSON, where it is UTF-8
abbrev pub Says : List ℕ → Data → Type 0
Says body message = IsUtf8 body × (read body ≡ Some message)

-- A request has the message that its body is, and its number. A body is no JSON if it is no message, and no request if its message is none; each of the
-- three excludes the others.
abbrev pub ReadsAs : List ℕ → Result Request (Refused MessageFault) → Type 0
ReadsAs body (Ok request) = Says body (view request.message) × (request_seq (view request.message) ≡ Some request.seq)
ReadsAs body (Err (Fault NotJson)) = IsUtf8 body → read body ≡ None
ReadsAs body (Err (Fault NotRequest)) = (message : Data) × Says body message × (request_seq message ≡ None)
ReadsAs body (Err Memory) = Unit {0}
