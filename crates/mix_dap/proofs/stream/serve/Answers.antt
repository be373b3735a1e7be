-- A library of files is a library.
use Rattle.mix_dap.proofs.stream.serve.Goals as goal

pub returns-clause-done : goal.returns-clause-done
returns-clause-done g c = c.serve_from.ensures.done

pub returns-clause-broken : goal.returns-clause-broken
returns-clause-broken g c = c.serve_from.ensures.broken
