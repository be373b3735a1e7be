-- What a caller in C keeps of an engine.
use base.Fml.{Fml, ftrue}
use denote.RawPtr.{Ptr}
use Rattle.std.specs.Prelude.{Option, Some, None}
use Rattle.std.specs.Global.{Global}
use Rattle.std.specs.Box.Ownership.{box_owns}
use Rattle.std.specs.contracts.impls.GlobalAllocator.TheImpl.{ghosts}
use Rattle.page.specs.contracts.engine.Engine.{the_row}

-- an engine at the pointer, with the right to give its block back, or nothing
abbrev pub owned : Global → Ptr → Option the_row.Denot → Fml
owned alloc p None = ftrue
owned alloc p (Some s) = box_owns (ghosts.dealloc_token alloc) the_row p s
