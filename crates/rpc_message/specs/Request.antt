-- What a request says: the name of its command and its arguments, looked up in its message.
use Rattle.std.specs.Prelude.{ℕ, ℤ, List, [], Bool, true, false, Option, None, Some, codes, is_some, option_and_then, unwrap_or, if◌then◌else◌}
use Rattle.serde_json.specs.View.{view}
use Rattle.serde_json.specs.Data.{Data, Items}
use Rattle.serde_json.specs.Find.{get, as_array, as_bool, as_null, as_object, as_str}
use Rattle.rpc_message.specs.Whole.{integer_in, natural_in}
use Rattle.rpc_message.specs.declared.request.Request.{Request}

-- the name of what it asks for; none is the empty one
abbrev pub name_of : Request → List ℕ
name_of r = unwrap_or (option_and_then as_str (get (codes "command") (view r.message))) []

-- what stands there, unless that is null
abbrev pub unless_null : Data → Option Data
unless_null d = if is_some (as_null d) then None else Some d

-- a member of an object, if it is there; one that is null is not
abbrev pub member_of : List ℕ → Data → Option Data
member_of name d = option_and_then unless_null (get name d)

-- whether arguments are an object, or there are none
abbrev pub is_object_if : Option Data → Bool
is_object_if None = true
is_object_if (Some d) = is_some (as_object d)

abbrev pub are_arguments : Request → Bool
are_arguments r = is_object_if (member_of (codes "arguments") (view r.message))

-- an argument of a name
abbrev pub argument_of : Request → List ℕ → Option Data
argument_of r name = option_and_then (member_of name) (get (codes "arguments") (view r.message))

-- an argument that is a text
abbrev pub text_of : Request → List ℕ → Option (List ℕ)
text_of r name = option_and_then as_str (argument_of r name)

-- an argument that is a whole number, zero or more
abbrev pub number_of : Request → List ℕ → Option ℕ
number_of r name = option_and_then natural_in (argument_of r name)

-- an argument that is a whole number
abbrev pub integer_of : Request → List ℕ → Option ℤ
integer_of r name = option_and_then integer_in (argument_of r name)

-- whether an argument is true
abbrev pub flag_of : Request → List ℕ → Bool
flag_of r name = unwrap_or (option_and_then as_bool (argument_of r name)) false

-- an argument that is a list
abbrev pub list_of : Request → List ℕ → Option Items
list_of r name = option_and_then as_array (argument_of r name)
