-- What ends a talk before the client is done.
use Rattle.std.specs.Prelude.{ℕ, List, codes}
use Rattle.rpc_stream.specs.declared.broken.Broken.{Broken}
use Rattle.rpc_stream.specs.declared.broken.Broken.TheVariants.{Memory, Read, Write, TooLong, Cut}

-- its number and its text
abbrev pub broken_text : Broken → List ℕ
broken_text Memory = codes "T1 out of memory"
broken_text Read = codes "T2 read failed"
broken_text Write = codes "T3 write failed"
broken_text TooLong = codes "T6 input too long"
broken_text Cut = codes "T7 input cut"

-- what ends it while messages are told: no memory, or a write that failed
abbrev pub IsMemoryOrWrite : Broken → Type 0
IsMemoryOrWrite Memory = Unit {0}
IsMemoryOrWrite Read = ⊥
IsMemoryOrWrite Write = Unit {0}
IsMemoryOrWrite TooLong = ⊥
IsMemoryOrWrite Cut = ⊥
