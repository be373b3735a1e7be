-- The bytes that are still to be heard are those of the beginning.
use Rattle.std.proofs.Common.{◌≡◌, ◌+◌, ◌-◌, length}
use Rattle.std.specs.Io.KnownBytes.{Keeps}
use Rattle.rpc_frame.specs.Frame.{max_body, max_header}
use Rattle.rpc_stream.specs.Hearing.{kept, unheard}
use Rattle.rpc_stream.proofs.hear.Ear.hear.Given as goal

abbrev pub invariant-reads : goal.invariant-reads
invariant-reads g l = record {
  same : Keeps (unheard l.fn.self (g.R.In.rest l.fn.input)) (unheard l.self (g.R.In.rest l.input));
  read : g.R.In.failed l.input ≡ g.R.In.failed l.fn.input;
}

abbrev pub decreases-reads : goal.decreases-reads
decreases-reads g l = max_header + max_body - length (kept l.self)
