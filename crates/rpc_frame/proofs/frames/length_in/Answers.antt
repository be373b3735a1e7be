use Rattle.rpc_frame.proofs.HeaderLemmas.{no_colon}
use Rattle.rpc_frame.proofs.frames.length_in.Goals as goal

pub returns-in_err-colon : goal.returns-in_err-colon
returns-in_err-colon c = rw c.from_residual.ensures (no_colon c.args.line.now c.in_err-colon.ensures)
