-- What is told where a run has ended: that the program stops; or, if it is not debugged, that it has ended.
use Rattle.std.specs.Prelude.{List, [], ◌∷◌, ◌++◌, codes, Option, Some}
use Rattle.mix_machine.specs.declared.fault.MixFault.{MixFault}
use Rattle.mix_machine.specs.Fault.{fault_line}
use Rattle.mix_session.specs.declared.reply.End.{End}
use Rattle.mix_session.specs.declared.reply.End.TheVariants as ends
use Rattle.mix_dap.specs.Events.{Event, stopped, terminated}
use Rattle.mix_dap.specs.Output.{output}
use Rattle.mix_dap.specs.Stopped.{Why}
use Rattle.mix_dap.specs.declared.launch.Opening.{Opening}
use Rattle.mix_dap.specs.declared.launch.Opening.TheVariants as opening

-- a fault is told to the one who runs the program
abbrev pub fault_told : MixFault → Event
fault_told fault = output (codes "stderr") (fault_line fault ++ 10 ∷ [])

-- a HLT or a fault ends a program that is not debugged; after as many changes as a run may do, or for want of memory, it stops as any other does
abbrev pub over_told : Option End → Why → List Event
over_told (Some ends.Halt) why = terminated ∷ []
over_told (Some (ends.Fault fault)) why = fault_told fault ∷ terminated ∷ []
over_told other why = stopped why ∷ []

abbrev pub end_told : Opening → Option End → Why → List Event
end_told opening.Free ended why = over_told ended why
end_told other ended why = stopped why ∷ []
