-- The report is told.
use Rattle.std.proofs.Common.{rules, codes}
use Rattle.std.specs.Str.Lossy.{utf8_lossy}
use Rattle.mix_dap.proofs.EventLemmas.{adds-output}
use Rattle.mix_dap.proofs.report.tell_lossy.Goals as goal

pub returns : goal.returns
returns c =
    adds-output (codes "stderr") _ (utf8_lossy c.args.text.now) c.args.out.now c.output.new.self (search rules) c.in_ok-output.ensures.told
