use Rattle.std.proofs.Common.{◌≡◌, ◌-◌, ◌≤◌, vec_len}
use Rattle.std.specs.Io.KnownBytes.{Consumes}
use Rattle.mix_stream.proofs.input.read_up_to.Given as goal

abbrev pub invariant-loop-buffer : goal.invariant-loop-buffer
invariant-loop-buffer g l =
    (vec_len l.bytes ≤ l.most) × (g.R.In.failed l.source ≡ g.R.In.failed l.initial.source) × Consumes (g.R.In.rest l.initial.source) (g.R.In.rest l.source) l.bytes.items

abbrev pub decreases-loop-buffer : goal.decreases-loop-buffer
decreases-loop-buffer g l = l.most - vec_len l.bytes
