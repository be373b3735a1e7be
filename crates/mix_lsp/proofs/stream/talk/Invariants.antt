-- So many frames were heard and answered.
use Rattle.std.proofs.Common.{◌≡◌, ◌-◌, ◌^◌, length}
use Rattle.rpc_stream.specs.Hearing.{unheard}
use Rattle.mix_lsp.specs.Served.{Talks}
use Rattle.mix_lsp.proofs.stream.talk.Given as goal

abbrev pub invariant-turns : goal.invariant-turns
invariant-turns g l = record {
  talks : (talks : Talks l.fn.server.phase l.server.phase (unheard l.fn.ear (g.R.In.rest l.fn.input)) (unheard l.ear (g.R.In.rest l.input))
      (g.W.Out.told l.fn.out) (g.W.Out.told l.out)) × (length talks.frames ≡ l.turns);
  read : g.R.In.failed l.input ≡ g.R.In.failed l.fn.input;
  written : g.W.Out.failed l.out ≡ g.W.Out.failed l.fn.out;
}

abbrev pub decreases-turns : goal.decreases-turns
decreases-turns g l = 2 ^ 64 - 1 - l.turns
