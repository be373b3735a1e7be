use Rattle.std.proofs.Common.{◌≡◌, length}
use Rattle.mixal_asm.specs.Source.{symbols_of}
use Rattle.mixal_asm.proofs.symbols.SymbolsIterator.next.Given as goal

abbrev pub invariant-loop-key : goal.invariant-loop-key
invariant-loop-key l = symbols_of l.self-inside.names ≡ l.fn.self

abbrev pub decreases-loop-key : goal.decreases-loop-key
decreases-loop-key l = length l.self-inside.names
