-- One event is told.
use Rattle.std.proofs.Common.{rules}
use Rattle.serde_json.specs.Data.{null}
use Rattle.mix_dap.proofs.EventLemmas.{adds-one}
use Rattle.mix_dap.proofs.event.tell_event.Goals as goal

pub returns : goal.returns
returns c = adds-one c.args.name.now _ null c.args.out.now c.event.new.self (search rules) c.in_ok-event.ensures.told
