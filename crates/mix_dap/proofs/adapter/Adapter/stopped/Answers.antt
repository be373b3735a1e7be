use Rattle.std.proofs.Common.{rules, codes}
use Rattle.std.specs.Option.{option_map}
use Rattle.mix_dap.proofs.EventLemmas.{adds-one}
use Rattle.mix_dap.specs.Stopped.{stopped_body}
use Rattle.mix_dap.proofs.adapter.Adapter.stopped.Goals as goal

pub returns : goal.returns
returns c = adds-one (codes "stopped") _ (stopped_body (record { reason = c.args.reason.now; text = option_map (λ t. t.now) c.args.text })) c.args.out.now c.event.new.self (search rules) c.in_ok-event.ensures.told
