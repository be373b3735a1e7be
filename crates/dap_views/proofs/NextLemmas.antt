-- A step is told before it is done as it is told when it is done.
use Rattle.std.proofs.Common.{◌≡◌, ◌-◌, length, refl}
use Rattle.std.proofs.Math.Seq.{take-append_seam}
use Rattle.mix_session.specs.Prelude.{world_at, Timeline, world_of}

-- the machine after all changes done is the one now
pub machine_now : (t : Timeline) → world_at t (length t.changes) ≡ world_of t
unfolding world_at world_of
machine_now t = rw (take-append_seam t.changes t.ahead) refl
