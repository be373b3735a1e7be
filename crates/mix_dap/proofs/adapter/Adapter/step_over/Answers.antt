-- More than one step: the request is answered, and then the program runs.
use Rattle.std.proofs.Common.{refl}
use Rattle.std.proofs.lemmas.Bool.{ne_eqb}
use Rattle.mix_dap.proofs.EventLemmas.{reply-alone}
use Rattle.mix_dap.proofs.adapter.Adapter.step_over.Goals as goal

pub returns-clause-reacts : goal.returns-clause-reacts
returns-clause-reacts c = rw (← c.in_ok-steps.ensures, ne_eqb c.in_ok-steps.steps 1 c.if-steps-eq1.false) (
  tt,
  refl,
  refl,
  refl,
  refl,
  refl,
  reply-alone c.args.request.now _ c.args.out.now c.reply.new.self c.in_ok-reply.ensures.told,
)
