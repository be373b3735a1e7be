-- What is told for a request is what its contract says, and nothing waited before it.
use Rattle.std.proofs.Common.{refl, rules}
use Rattle.mix_dap.specs.Reacts.{Reacts}
use Rattle.mix_dap.proofs.EventLemmas.{sends-all}
use Rattle.mix_dap.proofs.served.ask_program.Goals as goal

pub returns-in-On : goal.returns-in-On
returns-in-On c = (
  refl,
  record {
    asked = c.kind_asked.result;
    is_asked = c.kind_asked.ensures;
    flow = c.in_ok-receive.field-0;
    next_is = search rules;
    program = c.in_ok-receive.ensures.program;
    first = c.in_ok-receive.ensures.first;
    keeps = c.in_ok-receive.ensures.keeps;
    reacts = sends-all (λ old new. Reacts c.kind_asked.result c.args.request.now c.args.adapter c.in_ok-receive.field-0 c.receive.new.self old new) c.args.outbox.now c.receive.new.out
        c.requires c.in_ok-receive.ensures.reacts;
  },
)

pub returns-in-Over : goal.returns-in-Over
returns-in-Over c = (
  refl,
  (
    c.receive.new.self,
    record {
      asked = c.kind_asked.result;
      is_asked = c.kind_asked.ensures;
      flow = c.in_ok-receive.field-0;
      next_is = search rules;
      program = c.in_ok-receive.ensures.program;
      first = c.in_ok-receive.ensures.first;
      keeps = c.in_ok-receive.ensures.keeps;
      reacts = sends-all (λ old new. Reacts c.kind_asked.result c.args.request.now c.args.adapter c.in_ok-receive.field-0 c.receive.new.self old new) c.args.outbox.now c.receive.new.out
          c.requires c.in_ok-receive.ensures.reacts;
    },
  ),
)
