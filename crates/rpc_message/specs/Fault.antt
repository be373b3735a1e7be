-- The text of each reason why a body is no request.
use Rattle.std.specs.Prelude.{ℕ, List, codes}
use Rattle.rpc_message.specs.declared.request.MessageFault.{MessageFault}
use Rattle.rpc_message.specs.declared.request.MessageFault.TheVariants.{NotJson, NotRequest}

abbrev pub message_fault_text : MessageFault → List ℕ
message_fault_text NotJson = codes "not JSON"
message_fault_text NotRequest = codes "not a request"
