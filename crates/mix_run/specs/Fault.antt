-- The faults of the runs: each one's number and text, the line that reports it, and what reading meets.
use Rattle.std.specs.Prelude.{ℕ, List, [], ◌++◌, codes}
use Rattle.mix_machine.specs.units.deck.Fault.{deck_fault_text}
use Rattle.mix_refused.specs.declared.refused.Refused.{Refused}
use Rattle.mix_refused.specs.declared.refused.Refused.TheVariants as refused
use Rattle.mix_session.specs.Fault.{numbered}
use Rattle.mix_stream.specs.declared.counted.Failed.{Failed}
use Rattle.mix_run.specs.declared.fault.ToolFault.{ToolFault}
use Rattle.mix_run.specs.declared.fault.ToolFault.TheVariants.{Memory, Read, Write, Deck, Long}

-- the number of a fault of the tool; T4, a file that is not opened, is none of this type
abbrev pub tool_number : ToolFault → ℕ
tool_number Memory = 1
tool_number Read = 2
tool_number Write = 3
tool_number (Deck fault) = 5
tool_number Long = 6

-- its words
abbrev pub tool_text : ToolFault → List ℕ
tool_text Memory = codes "out of memory"
tool_text Read = codes "read failed"
tool_text Write = codes "write failed"
tool_text (Deck fault) = codes "deck refused"
tool_text Long = codes "input too long"

-- what stands after the words: of a deck its line and its own fault
abbrev pub tool_detail : ToolFault → List ℕ
tool_detail Memory = []
tool_detail Read = []
tool_detail Write = []
tool_detail (Deck fault) = codes " at " ++ deck_fault_text fault
tool_detail Long = []

-- `T1 out of memory`, `T5 deck refused at line 1: K1 bad header`
abbrev pub tool_fault_text : ToolFault → List ℕ
tool_fault_text fault = numbered (codes "T") (tool_number fault) (tool_text fault) ++ tool_detail fault

-- what reading meets
abbrev pub fault_of_read : Refused Failed → ToolFault
fault_of_read refused.Memory = Memory
fault_of_read (refused.Fault failed) = Read

-- the faults that a command or a script meets: no memory, or a write that failed
abbrev pub IsMemoryOrWrite : ToolFault → Type 0
IsMemoryOrWrite Memory = Unit {0}
IsMemoryOrWrite Write = Unit {0}
IsMemoryOrWrite Read = ⊥
IsMemoryOrWrite (Deck fault) = ⊥
IsMemoryOrWrite Long = ⊥

-- the faults that the reading of a source meets: no memory, or a read that failed
abbrev pub IsMemoryOrRead : ToolFault → Type 0
IsMemoryOrRead Memory = Unit {0}
IsMemoryOrRead Read = Unit {0}
IsMemoryOrRead Write = ⊥
IsMemoryOrRead (Deck fault) = ⊥
IsMemoryOrRead Long = ⊥
