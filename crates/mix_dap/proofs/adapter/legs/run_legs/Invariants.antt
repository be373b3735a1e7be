-- So many legs went on, one after the other.
use Rattle.std.proofs.Common.{◌≡◌, ℕ}
use Rattle.mix_dap.specs.Runs.{Passes, first_leg}
use Rattle.mix_dap.proofs.adapter.legs.run_legs.Given as goal

abbrev pub invariant-legs : goal.invariant-legs
invariant-legs l = record {
  program : l.session.program ≡ l.fn.session.program;
  first : l.session.timeline.first ≡ l.fn.session.timeline.first;
  passed : (count : ℕ) × Passes l.way count (first_leg l.way l.fn.points l.fn.session.timeline) (record { points = l.points; timeline = l.session.timeline; left = l.left });
}

abbrev pub decreases-legs : goal.decreases-legs
decreases-legs l = l.left
