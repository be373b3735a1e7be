-- What a request is about, by its name.
use Rattle.std.specs.Prelude.{◌≡◌, ℕ, map, List, [], ◌∷◌, Option, None, Some, Result, Ok, Err, if◌then◌else◌}
use Rattle.std.specs.Str.{bytes_eq}
use Rattle.rpc_message.specs.Request.{name_of}
use Rattle.rpc_message.specs.declared.request.Request.{Request}
use Rattle.dap_asked.specs.declared.fault.Fault.{Fault}
use Rattle.dap_asked.specs.declared.fault.Fault.TheVariants.{BadArgument, NoSuchRequest}
use Rattle.dap_asked.specs.declared.kind.Kind.{Kind}
use Rattle.dap_asked.specs.declared.kind.TheConstants.{REQUESTS}

-- what a name names among some rows, letter for letter
abbrev pub kind_among : List ℕ → List (List ℕ × Kind) → Option Kind
kind_among name [] = None
kind_among name (row ∷ rest) = if bytes_eq row.0 name then Some row.1 else kind_among name rest

-- the requests that there are stand in one table
unfoldable pub kind_named : List ℕ → Option Kind
kind_named name = kind_among name (map (λ row. (row.0.now, row.1)) REQUESTS)

-- one of a name that is there is refused for its arguments alone
abbrev pub refused_for : Option Kind → Fault
refused_for None = NoSuchRequest
refused_for (Some kind) = BadArgument

-- what a request is about is what the table gives for its name, or it is refused
abbrev pub IsAsked : Result Kind Fault → Request → Type 0
IsAsked (Ok kind) r = kind_named (name_of r) ≡ Some kind
IsAsked (Err why) r = why ≡ refused_for (kind_named (name_of r))
