-- The fault, and then the end.
use Rattle.std.proofs.Common.{[], ◌∷◌}
use Rattle.mix_dap.specs.Ended.{fault_told}
use Rattle.mix_dap.specs.Events.{terminated}
use Rattle.mix_dap.proofs.EventLemmas.{adds-then}
use Rattle.mix_dap.proofs.adapter.Adapter.tell_over.Goals as goal

pub returns-in_ok-tell_event-in-Fault : goal.returns-in_ok-tell_event-in-Fault
returns-in_ok-tell_event-in-Fault c =
    rw c.in-Fault.is
    (adds-then (fault_told c.in-Fault.fault ∷ []) (terminated ∷ []) c.args.out.now c.tell_fault.new.out c.tell_event-in-Fault.new.out c.in_ok-tell_fault-in-Fault.ensures c.in_ok-tell_event-in-Fault.ensures)
