-- One row is told.
use Rattle.std.proofs.Common.{rules, codes}
use Rattle.mix_dap.specs.Output.{row_line}
use Rattle.mix_dap.proofs.EventLemmas.{adds-output}
use Rattle.mix_dap.proofs.printed.tell_row.Goals as goal

pub returns : goal.returns
returns c =
    adds-output (codes "stdout") _ (row_line c.args.row.now) c.args.out.now c.output.new.self (search rules) c.in_ok-output.ensures.told
