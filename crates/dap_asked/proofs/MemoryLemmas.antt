-- Facts of the bytes of the memory, as a list of what stands at each number.
use Rattle.std.proofs.Common.{◌≡◌, ℕ, List, Option, None, Some, Result, Err, codes, sym, ap, ◌∙◌}
use Rattle.std.specs.Prelude.{ok_or}
use Rattle.dap_asked.specs.Layout.{byte_of_reference}
use Rattle.dap_asked.specs.declared.fault.Fault.{Fault}
use Rattle.dap_asked.specs.Memory.{integer_asked, start_asked}
use Rattle.dap_asked.specs.declared.fault.Fault.TheVariants as fault
use Rattle.mixal_text.specs.Steps.{◌>>=◌}
use Rattle.rpc_message.specs.declared.request.Request.{Request}
use Rattle.rpc_message.specs.Request.{text_of}

-- by the reference of a request
abbrev by_reference : Request → Option (List ℕ) → Result ℕ Fault
by_reference r text = ok_or text fault.BadArgument >>= (λ reference. ok_or (byte_of_reference reference (integer_asked r (codes "offset"))) fault.NoSuchThing)

-- a request whose reference names no byte
pub no_start : (r : Request) (reference : List ℕ) → Some reference ≡ text_of r (codes "memoryReference")
    → None ≡ byte_of_reference reference (integer_asked r (codes "offset")) → start_asked r ≡ Err fault.NoSuchThing
no_start r reference text none = ap (by_reference r) (sym text) ∙ ap (λ (byte : Option ℕ). ok_or byte fault.NoSuchThing) (sym none)
