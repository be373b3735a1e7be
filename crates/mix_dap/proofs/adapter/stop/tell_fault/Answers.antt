-- A fault is told.
use Rattle.std.proofs.Common.{rules, [], ◌∷◌, ◌++◌, codes}
use Rattle.mix_machine.specs.Fault.{fault_line}
use Rattle.mix_dap.proofs.EventLemmas.{adds-output}
use Rattle.mix_dap.proofs.adapter.stop.tell_fault.Goals as goal

pub returns : goal.returns
returns c =
    adds-output (codes "stderr") _ (fault_line c.args.fault ++ 10 ∷ []) c.args.out.now c.output.new.self (search rules) c.in_ok-output.ensures.told
