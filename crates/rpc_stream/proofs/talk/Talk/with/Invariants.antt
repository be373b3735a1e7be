-- So many exchanges were had.
use Rattle.std.proofs.Common.{◌≡◌, ◌-◌, ◌^◌, []}
use Rattle.rpc_message.specs.Message.{waits}
use Rattle.rpc_stream.specs.Prelude.{unheard, Steps, going, Talks}
use Rattle.rpc_stream.proofs.talk.Talk.with.Given as goal

abbrev pub invariant-turns : goal.invariant-turns
invariant-turns g l = record {
  talks : Talks (Steps g.S.Serves.serves) (going (l.fn.served, l.fn.self.outbox.seq)) (going (l.served, l.self.outbox.seq)) l.turns
      (unheard l.fn.self.ear (g.R.In.rest l.fn.input)) (unheard l.self.ear (g.R.In.rest l.input)) (g.W.Out.told l.fn.out) (g.W.Out.told l.out);
  none : waits l.self.outbox ≡ [];
  read : g.R.In.failed l.input ≡ g.R.In.failed l.fn.input;
  written : g.W.Out.failed l.out ≡ g.W.Out.failed l.fn.out;
}

abbrev pub decreases-turns : goal.decreases-turns
decreases-turns g l = 2 ^ 64 - 1 - l.turns
