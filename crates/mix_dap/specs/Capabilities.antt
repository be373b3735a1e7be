-- What the adapter can do, and what the client says of itself.
use Rattle.std.specs.Prelude.{ℕ, Bool, true, false, List, codes, Option, None, Some, option_and_then}
use Rattle.serde_json.specs.Find.{as_bool}
use Rattle.rpc_message.specs.declared.request.Request.{Request}
use Rattle.rpc_message.specs.Request.{argument_of, flag_of}
use Rattle.mix_dap.specs.declared.capabilities.Client.{Client}

-- what an argument says, where it is true or false
abbrev pub asked_flag : Request → List ℕ → Option Bool
asked_flag r name = option_and_then as_bool (argument_of r name)

-- the number of the client's first line: 1, unless it says that its lines do not start at 1; that of its first column likewise
abbrev pub first_by : Option Bool → ℕ
first_by None = 1
first_by (Some true) = 1
first_by (Some false) = 0

abbrev pub client_of : Request → Client
client_of r = record {
  first = first_by (asked_flag r (codes "linesStartAt1"));
  first_column = first_by (asked_flag r (codes "columnsStartAt1"));
  hears_invalidated = flag_of r (codes "supportsInvalidatedEvent");
}

-- a client that has said nothing
abbrev pub unknown_client : Client
unknown_client = record { first = 1; first_column = 1; hears_invalidated = false }
