-- What is said of a call that was refused.
use Rattle.std.specs.Prelude.{Result, Ok, Err, ⊤}
use Rattle.mix_refused.specs.declared.refused.Refused.{Refused}
use Rattle.mix_refused.specs.declared.refused.Refused.TheVariants.{Fault, Memory}

-- P holds of the fault, if there is one
abbrev pub IfFault : {T F : Type 0} → Result T (Refused F) → (F → Type 0) → Type 0
IfFault (Ok _) P = Unit {0}
IfFault (Err (Fault fault)) P = P fault
IfFault (Err Memory) P = Unit {0}

-- the answer is a fault
abbrev pub IsFault : {T F : Type 0} → Result T (Refused F) → Type 0
IsFault (Ok _) = ⊥
IsFault (Err (Fault fault)) = ⊤
IsFault (Err Memory) = ⊥

-- P holds if memory was refused
abbrev pub IfMemory : {T F : Type 0} → Result T (Refused F) → Type 0 → Type 0
IfMemory (Ok _) P = Unit {0}
IfMemory (Err (Fault fault)) P = Unit {0}
IfMemory (Err Memory) P = P
