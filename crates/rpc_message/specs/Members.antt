-- The members of a message, by their names.
use Rattle.std.specs.Prelude.{ℕ, List, codes, Bool, true, false, Option, None, Some, is_some, option_and_then, if◌then◌else◌}
use Rattle.std.specs.Str.{bytes_eq}
use Rattle.serde_json.specs.Data.{Data}
use Rattle.serde_json.specs.Find.{get, as_str}
use Rattle.rpc_message.specs.Whole.{natural_in}

-- a member that is a text
abbrev pub text_in : List ℕ → Data → Option (List ℕ)
text_in name message = option_and_then as_str (get name message)

-- a member that is a whole number, zero or more
abbrev pub number_in : List ℕ → Data → Option ℕ
number_in name message = option_and_then natural_in (get name message)

-- whether a text is this one
abbrev pub is_text : List ℕ → Option (List ℕ) → Bool
is_text text None = false
is_text text (Some other) = bytes_eq other text

-- whether a message is of this type
abbrev pub is_of_type : List ℕ → Data → Bool
is_of_type name message = is_text name (text_in (codes "type") message)

-- the number of a message that is a request: an object of the type `request`, with a number and the name of a command
abbrev pub request_seq : Data → Option ℕ
request_seq message = if is_of_type (codes "request") message then (if is_some (text_in (codes "command") message) then number_in (codes "seq") message else None) else None
