-- As many bytes as a frame may have are no beginning of one.
use Rattle.std.proofs.Common.{◌<◌, ◌+◌, Ok, subst, length, arith}
use Rattle.rpc_frame.specs.Frame.{max_body, max_header}
use Rattle.rpc_frame.proofs.Growing.{partial-short}
use Rattle.rpc_stream.specs.Hearing.{FirstAs, kept}
use Rattle.rpc_stream.proofs.hear.Ear.hear.Goals as goal

pub unreachable-requires : goal.unreachable-requires
unreachable-requires g c =
    let begins = subst (λ o. FirstAs (Ok o) (kept c.reads.self) (kept c.first-2.new.self)) c.in-None.is c.in_ok-heard-2.ensures in
    let short : length (kept c.reads.self) < max_header + max_body = partial-short (kept c.reads.self) begins.0 in
    omega (arith, c.reads.self.bytes.ok.0)
