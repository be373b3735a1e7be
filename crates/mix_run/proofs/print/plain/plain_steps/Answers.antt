-- Plain steps more.
use Rattle.std.proofs.Common.{◌+◌, ◌-◌, ◌∙◌, arith, sym}
use Rattle.mix_run.proofs.PlainLemmas.{many-go}
use Rattle.mix_run.proofs.print.plain.plain_steps.Goals as goal

pub loop-left-preserved : goal.loop-left-preserved
loop-left-preserved c =
    let steps = c.args.options.steps in
    let ts = c.args.watch.now.transfers in
    let done = c.run-done.result.0 in
    let left = c.loop-left.left in
    let on = many-go c.args.options ts c.if-options.false c.decode_law.ensures c.change_law.ensures.forward (c.transfer_law.ensures.apart ts)
    done (steps - left + 1) (steps - (left - done) + 1) left (left - done) c.loop-left.world c.run-done.new.self c.run-done.ensures.steps.1.done.0
    (omega (arith, c.run-done.ensures.within, c.loop-left.invariant.within, c.requires))
    (omega (arith, c.run-done.ensures.within)) c.loop-left.invariant.over
    (λ some. sym c.next_is_plain-plain.ensures ∙ c.if-not-plain.false) c.run-done.ensures.steps.1.done.2 in
    record {
      within = omega (arith, c.loop-left.invariant.within);
      same = c.loop-left.invariant.same ∙ on.same;
      over = on.over;
      units = on.units ∙ c.loop-left.invariant.units;
    }
