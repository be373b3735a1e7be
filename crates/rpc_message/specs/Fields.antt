-- The fields of an object that is being made.
use Rattle.serde_json.specs.Data.{Members}
use Rattle.serde_json.specs.View.{members_view}
use Rattle.rpc_message.specs.declared.fields.Fields.{Fields}

abbrev pub members_in : Fields → Members
members_in fields = members_view fields.members.entries
