-- The bytes of the memory that a client asks for.
use Rattle.std.specs.Prelude.{ℕ, ℤ, pos, List, codes, Result, ok_or, unwrap_or}
use Rattle.rpc_message.specs.Request.{text_of, integer_of}
use Rattle.rpc_message.specs.declared.request.Request.{Request}
use Rattle.dap_asked.specs.Layout.{byte_of_reference}
use Rattle.dap_asked.specs.declared.fault.Fault.{Fault}
use Rattle.dap_asked.specs.declared.fault.Fault.TheVariants as fault
use Rattle.mixal_text.specs.Steps.{◌>>=◌}

-- a whole number that a request has, or 0
abbrev pub integer_asked : Request → List ℕ → ℤ
integer_asked r name = unwrap_or (integer_of r name) (pos 0)

-- the byte of the memory, or its end, that a request names
abbrev pub start_asked : Request → Result ℕ Fault
start_asked r = do
  reference ← ok_or (text_of r (codes "memoryReference")) fault.BadArgument
  ok_or (byte_of_reference reference (integer_asked r (codes "offset"))) fault.NoSuchThing
