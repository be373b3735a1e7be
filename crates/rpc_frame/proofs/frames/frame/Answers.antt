use Rattle.std.proofs.Common.{append_assoc}
use Rattle.rpc_frame.specs.Frame.{frame_of}
use Rattle.rpc_frame.proofs.frames.frame.Goals as goal

pub returns : goal.returns
unfolding frame_of
returns c = simp append_assoc c.in_ok-text.ensures.ok
