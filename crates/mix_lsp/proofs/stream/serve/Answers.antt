-- From the first byte on.
use Rattle.std.proofs.Common.{Ok}
use Rattle.rpc_stream.specs.Hearing.{kept}
use Rattle.mix_lsp.proofs.ServedLemmas.{served-from}
use Rattle.mix_lsp.proofs.stream.serve.Goals as goal

pub returns-in-Ok-clause-served : goal.returns-in-Ok-clause-served
returns-in-Ok-clause-served g c fine = (
  served-from (Ok c.in-Ok.status) c.new-server.result.phase c.talk.new.server.phase (kept c.new-ear.result) (kept c.talk.new.ear) _ _ _ _
      c.new-server.ensures c.new-ear.ensures c.in-Ok.ensures.served,
  c.talk.ensures.read.1 (λ e. cc),
)
