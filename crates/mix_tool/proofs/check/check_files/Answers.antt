-- What is written is the reports of the sources that were read.
use Rattle.std.proofs.Common.{map}
use Rattle.std.specs.Prelude.{string_bytes}
use Rattle.mix_tool.specs.Plan.{named_of}
use Rattle.mix_tool.proofs.check.check_files.Goals as goal

pub returns-in-Ok-clause-done : goal.returns-in-Ok-clause-done
returns-in-Ok-clause-done g c all e =
    let checks = c.write_reports-outcome.ensures.output c.args.json (named_of all (map string_bytes c.args.sources.now)) (c.in-Ok.ensures.reported all e) in
    rw ((c.in-Ok.ensures.opened all e).1) (checks.0, checks.1, (c.write_reports-outcome.result, checks.2, c.status.ensures.status))
