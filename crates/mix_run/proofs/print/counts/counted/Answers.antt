-- What is left is that of the session after its steps.
use Rattle.mix_run.proofs.CountedLemmas.{counted-made}
use Rattle.mix_run.proofs.print.counts.counted.Goals as goal

pub returns : goal.returns
returns c =
    counted-made c.args.options c.args.session.now c.run_steps.new.session c.in_ok-end.end _ _ _ _ _ _ _ c.in_ok-end.ensures.program
    c.in_ok-end.ensures.run.0 c.in_ok-end.ensures.run.1 c.alone-stepped.ensures.end c.alone-stepped.ensures.conflicts c.world.ensures c.program.ensures
    c.in_ok-printed.ensures.answer c.in_ok-printed.ensures.deck (rw c.in_ok-printed.ensures.map c.in_ok-map.ensures)
